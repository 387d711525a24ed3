-- Addresses.
--   cylinder_of, sector_of  the two halves of an address: 32 blocks to a cylinder
--   root_place              sectors 1 to 4
--   data_block              sectors 5 to 31
use Rattle.std.specs.Prelude.{ℕ, ◌/◌, ◌%◌, Bool, ◌&&◌, nat_le}

abbrev pub cylinder_of : ℕ → ℕ
cylinder_of a = a / 32

abbrev pub sector_of : ℕ → ℕ
sector_of a = a % 32

abbrev pub root_place : ℕ → Bool
root_place a = nat_le 1 (sector_of a) && nat_le (sector_of a) 4

abbrev pub data_block : ℕ → Bool
data_block a = nat_le 5 (sector_of a)
