use Rattle.gen_design.proofs.Sound as law
use Rattle.gen_design.proofs.laws.each_made_table_is_sound.Goals as goal

pub returns : goal.returns
returns c = law.made-is-sound
