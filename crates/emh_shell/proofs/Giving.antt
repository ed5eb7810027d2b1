-- A told shelf gives one answer for a name.
use Rattle.std.proofs.Common.{◌≡◌, ℕ, List, Some, None, Option, sym, ap, ◌∙◌, Ok, Err}
use Rattle.emh_io.specs.Files.{Files, held}
use Rattle.emh_io.specs.Fetch.{within_limit}
use Rattle.emh_io.specs.declared.shelf.FetchFault.TheVariants.{Missing, TooLong}
use Rattle.emh_shell.specs.Fetching.{Gives, Lacks}

pub ok_long : (files : Files) (name bytes : List ℕ) → Gives (Some files) name (Ok bytes) → Gives (Some files) name (Err TooLong) → ⊥
ok_long files name bytes a b = let never : Ok bytes ≡ Err TooLong = sym a ∙ b in cc

pub ok_ok : (files : Files) (name bytes more : List ℕ) → Gives (Some files) name (Ok bytes) → Gives (Some files) name (Ok more) → bytes ≡ more
ok_ok files name bytes more a b = let same : Ok bytes ≡ Ok more = sym a ∙ b in cc

pub lacks_ok : (files : Files) (name bytes : List ℕ) → Lacks (Some files) name → Gives (Some files) name (Ok bytes) → ⊥
lacks_ok files name bytes a b = let never : Err Missing ≡ Ok bytes = sym (ap within_limit a) ∙ b in cc

pub lacks_long : (files : Files) (name : List ℕ) → Lacks (Some files) name → Gives (Some files) name (Err TooLong) → ⊥
lacks_long files name a b =
    let never : Err Missing ≡ Err TooLong = sym (ap within_limit a) ∙ b in
    let other : Missing ≡ TooLong = cc in
    cc
