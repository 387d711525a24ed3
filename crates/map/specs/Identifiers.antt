-- Identifiers: a tag that is not 0, and the address of a root place in cylinders 0 to 63.
--   is_identifier  two numbers that are one
--   identified     the identifier that two numbers are, if they are one
use Rattle.std.specs.Prelude.{ℕ, ◌^◌, Bool, cond, ◌&&◌, Some, None, Option, nat_lt}
use Rattle.map.specs.Addresses.{cylinder_of, root_place}
use Rattle.map.specs.declared.identifier.Identifier.{Identifier}

abbrev pub is_tag : ℕ → Bool
is_tag tag = nat_lt 0 tag && nat_lt tag (2 ^ 32)

abbrev pub is_identifier : ℕ → ℕ → Bool
is_identifier tag root = is_tag tag && root_place root && nat_lt (cylinder_of root) 64

abbrev pub identified : ℕ → ℕ → Option Identifier
identified tag root = cond (is_identifier tag root) (Some (record { tag = tag; root = root })) None
