-- The blocks of an image: whole runs of 512 bytes, each readable; bytes past the last whole run belong to none.
use Rattle.std.specs.Prelude.{◌≡◌, ℕ, ◌+◌, ◌*◌, ◌/◌, ◌<◌, ◌≤◌, List, ◌++◌, map, length, take, drop, Ok, Err, Result}
use Rattle.std.specs.List.{range_with_len}
use Rattle.device.specs.Blocks.{Block}
use Rattle.device.specs.declared.answers.StoreError.{StoreError}
use Rattle.device.specs.declared.answers.StoreError.TheVariants as storing

-- the 512 bytes of block b
abbrev pub part : List ℕ → ℕ → List ℕ
part bytes b = take 512 (drop (512 * b) bytes)

unfoldable pub image_blocks : List ℕ → List Block
image_blocks bytes = map (λ b. Block.readable (part bytes b)) (range_with_len 0 (length bytes / 512))

-- the bytes with block b overwritten
unfoldable pub overwritten : List ℕ → ℕ → List ℕ → List ℕ
overwritten bytes b new = take (512 * b) bytes ++ (new ++ drop (512 * b + 512) bytes)

-- a store on an image: never dark, and the other bytes stay, those past the last block too
abbrev pub Overwrites : List ℕ → ℕ → List ℕ → Result (Unit {0}) StoreError → List ℕ → Type 0
Overwrites bytes b new (Err storing.Outside) bytes' = (length bytes / 512 ≤ b) × (bytes' ≡ bytes)
Overwrites bytes b new (Err storing.Dark) bytes' = ⊥
Overwrites bytes b new (Ok _) bytes' = (b < length bytes / 512) × (bytes' ≡ overwritten bytes b new)
