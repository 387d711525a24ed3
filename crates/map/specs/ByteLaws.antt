-- A number of 32 bits is the number that its four bytes stand for, and an identifier the one that its two numbers are.
use Rattle.std.specs.Prelude.{◌≡◌, ℕ, ◌+◌, ◌*◌, ◌/◌, ◌%◌, ◌^◌, ◌<◌, true, cond, ◌&&◌, Some, None, nat_lt}
use Rattle.std.proofs.Common.{sym, ap, ap₂, ◌∙◌, arith}
use Rattle.std.proofs.lemmas.Nat.{shr-shr}
use Rattle.std.proofs.lemmas.Bool.{and_parts, ltb-true}
use Rattle.map.specs.Addresses.{cylinder_of, root_place}
use Rattle.map.specs.Bytes.{le4, number4}
use Rattle.map.specs.Identifiers.{is_tag, is_identifier, identified}
use Rattle.map.specs.declared.identifier.Identifier.{Identifier}

from_digits : (n q r s a b c d : ℕ) → n ≡ 256 * q + a → q ≡ 256 * r + b → r ≡ 256 * s + c → d ≡ s → a + b * 256 + c * 65536 + d * 16777216 ≡ n
from_digits n q r s a b c d e f g h = omega arith

split_256 : (n : ℕ) → n ≡ 256 * (n / 256) + n % 256
split_256 n = omega arith

pub number_of_le4 : (n : ℕ) → n < 2 ^ 32 → n % 256 + n / 256 % 256 * 256 + n / 65536 % 256 * 65536 + n / 16777216 % 256 * 16777216 ≡ n
number_of_le4 n h =
    let second : n / 65536 ≡ n / 256 / 256 = sym (shr-shr n 8 8) in
    let third : n / 16777216 ≡ n / 65536 / 256 = sym (shr-shr n 16 8) in
    let low : n / 16777216 % 256 ≡ n / 65536 / 256 = ap (λ m. m % 256) third ∙ small (n / 65536 / 256) (omega arith) in
    from_digits n (n / 256) (n / 65536) (n / 65536 / 256) (n % 256) (n / 256 % 256) (n / 65536 % 256) (n / 16777216 % 256)
    (split_256 n) (split_256 (n / 256) ∙ ap (λ m. 256 * m + n / 256 % 256) (sym second)) (split_256 (n / 65536)) low
  where
    small : (m : ℕ) → m < 256 → m % 256 ≡ m
    small m k = omega arith

pub identified_again : (id : Identifier) → is_identifier id.tag id.root ≡ true →
    identified (number4 (le4 id.tag) 0) (number4 (le4 id.root) 0) ≡ Some id
identified_again id proper =
    let tag = id.tag in
    let root = id.root in
    let names = and_parts (is_tag tag && root_place root) (nat_lt (cylinder_of root) 64) proper in
    let tags = and_parts (nat_lt 0 tag) (nat_lt tag (2 ^ 32)) (and_parts (is_tag tag) (root_place root) names.0).0 in
    let small : root < 2 ^ 32 = let c = ltb-true (cylinder_of root) 64 names.1 in omega arith in
    ap₂ identified (number_of_le4 tag (ltb-true tag (2 ^ 32) tags.1)) (number_of_le4 root small) ∙ ap (λ t. cond t (Some id) None) proper
