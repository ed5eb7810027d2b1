use Rattle.std.proofs.Common.{◌≡◌, suc, ◌<◌, [], ◌∷◌, ◌++◌, length, drop, append_assoc, arith, rules}
use Rattle.std.proofs.lemmas.Grind.{common_steps}
use Rattle.std.proofs.lemmas.List.{set_split}
use Rattle.edit_rules.proofs.rewrite.with_item.Goals as goal

pub returns : goal.returns
returns g c =
    let inside : c.args.place < length c.args.items.now = omega (arith, c.if-len-place.false, c.len.ensures) in
    let one : (c.args.item ∷ []) ++ drop (suc c.args.place) c.args.items.now ≡ c.args.item ∷ drop (suc c.args.place) c.args.items.now = search rules in
    rw (set_split c.args.items.now c.args.place c.args.item inside)
    (grind (arith, common_steps, append_assoc, one))
