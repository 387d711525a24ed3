-- Rules that change a map entry by entry.
--   each_at    the entries changed by a function of address and entry, the first standing at address a
--   any_at     one of them passes a test of address and entry
--   pointwise  the rule that changes each entry of the maps in which one passes the test
use Rattle.std.specs.Prelude.{ℕ, ◌+◌, ◌*◌, Bool, false, cond, ◌||◌, List, [], ◌∷◌, Some, None}
use Rattle.map.specs.declared.entry.Entry.{Entry}
use Rattle.journal.specs.Passes.{Rule}

unfoldable pub each_at : (ℕ → Entry → Entry) → ℕ → List Entry → List Entry
each_at f a [] = []
each_at f a (e ∷ es) = f a e ∷ each_at f (a + 1) es

unfoldable pub any_at : (ℕ → Entry → Bool) → ℕ → List Entry → Bool
any_at t a [] = false
any_at t a (e ∷ es) = t a e || any_at t (a + 1) es

abbrev pub pointwise : (ℕ → Entry → Bool) → (ℕ → Entry → Entry) → Rule
pointwise t f c entries = cond (any_at t (32 * c) entries) (Some (each_at f (32 * c) entries)) None
