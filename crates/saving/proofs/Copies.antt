-- Copying one part more, and power that fails while copying.
use Rattle.std.proofs.Common.{◌≡◌, ℕ, ◌+◌, ◌<◌, List, [], ◌∷◌, ◌++◌, length, get_or, take, drop, set, sym, ap, ◌∙◌, subst, arith}
use Rattle.std.proofs.lemmas.List.{take-append-drop, length-take-le, take_more}
use Rattle.device.specs.Blocks.{Block}
use Rattle.device.specs.PlanLaws.{wrote_append, cut_front, cut_back}
use Rattle.device.specs.Plans.{Write, write, wrote, CutIn}
use Rattle.saving.specs.Procedure.{copies}

pub copies_append : (p q : List (List ℕ)) (from : ℕ) → copies (p ++ q) from ≡ copies p from ++ copies q (from + length p)
copies_append [] q from = ap (copies q) (omega arith)
copies_append (part ∷ p) q from =
    ap (λ rest. write from part ∷ rest) (copies_append p q (from + 1) ∙ ap (λ at. copies p (from + 1) ++ copies q at) (omega arith))

module _ (parts : List (List ℕ)) (i from : ℕ) (within : i < length parts) where
  next : List Write
  next = write (from + i) (get_or parts i []) ∷ []

  front : length (take i parts) ≡ i
  front = length-take-le i parts (omega arith)

  copies_more : copies (take (i + 1) parts) from ≡ copies (take i parts) from ++ write (from + i) (get_or parts i []) ∷ []
  copies_more =
      ap (λ ps. copies ps from) (take_more parts i [] within)
      ∙ copies_append (take i parts) (get_or parts i [] ∷ []) from
      ∙ ap (λ n. copies (take i parts) from ++ write (from + n) (get_or parts i []) ∷ []) front

  pub wrote_more : (blocks mid after : List Block) → mid ≡ wrote blocks (copies (take i parts) from) →
      after ≡ set mid (from + i) (Block.readable (get_or parts i [])) → after ≡ wrote blocks (copies (take (i + 1) parts) from)
  wrote_more blocks mid after was e =
      e ∙ ap (λ xs. set xs (from + i) (Block.readable (get_or parts i []))) was
      ∙ sym (wrote_append blocks (copies (take i parts) from) (write (from + i) (get_or parts i []) ∷ []))
      ∙ ap (wrote blocks) (sym copies_more)

  copies_split : copies parts from ≡ copies (take (i + 1) parts) from ++ copies (drop (i + 1) parts) (from + length (take (i + 1) parts))
  copies_split = ap (λ ps. copies ps from) (sym (take-append-drop (i + 1) parts)) ∙ copies_append (take (i + 1) parts) (drop (i + 1) parts) from

  pub cut_copies : (blocks mid after : List Block) → mid ≡ wrote blocks (copies (take i parts) from) →
      CutIn mid (write (from + i) (get_or parts i []) ∷ []) after → CutIn blocks (copies parts from) after
  cut_copies blocks mid after was cut =
      let here = subst (λ xs. CutIn xs (write (from + i) (get_or parts i []) ∷ []) after) was cut in
      let joined = cut_back blocks (copies (take i parts) from) (write (from + i) (get_or parts i []) ∷ []) after here in
      let longer = cut_front blocks (copies (take (i + 1) parts) from) (copies (drop (i + 1) parts) (from + length (take (i + 1) parts))) after (subst (λ p. CutIn blocks p after) (sym copies_more) joined) in
      subst (λ p. CutIn blocks p after) (sym copies_split) longer
