-- When two jobs are alike.
use Rattle.std.proofs.Common.{◌≡◌, ℕ, ◌==◌, Bool, List, Decides, refl}
use Rattle.std.proofs.lemmas.Bool.Decides.{Decides-eqb}
use Rattle.std.proofs.lemmas.Slice.Eq.{slice_eq-Decides}
use lib.Pointwise.{pointwise}

-- `==` on two jobs' parts
pub same_parts : (a b : List (List ℕ)) (r : Bool) → r ≡ pointwise (pointwise (λ x y. x == y)) a b → Decides r (a ≡ b)
same_parts = slice_eq-Decides (λ x y. slice_eq-Decides Decides-eqb x y _ refl)
