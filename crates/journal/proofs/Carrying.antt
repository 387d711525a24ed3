-- Lists of stores carried out one after another.
use Rattle.std.proofs.Common.{◌≡◌, ℕ, zero, suc, ◌+◌, ◌*◌, ◌/◌, ◌<◌, Bool, List, [], ◌∷◌, ◌++◌, length, sym, refl, ap, ◌∙◌, subst, ap₂, ⊎_elim, arith}
use Rattle.std.proofs.lemmas.List.{length-append}
use Rattle.std.proofs.lemmas.Bool.{cases_eq}
use Rattle.device.specs.Blocks.{Block}
use Rattle.device.specs.PlanLaws.{wrote_append, wrote_length, cut_front, cut_back}
use Rattle.device.specs.Plans.{Write, wrote, CutIn}
use Rattle.journal.specs.Carried.{Ready, Whole, Went, planned}
use Rattle.journal.specs.Committing.{closing}
use Rattle.volume.specs.Volume.{cylinders_of}

-- a device stays ready while its stores are done
pub still_ready : {blocks blocks' : List Block} {lit lit' : Bool} {plan : List Write} {n cylinders : ℕ} → Ready blocks lit cylinders → Whole blocks plan n blocks' lit' → Ready blocks' lit' (cylinders_of blocks')
still_ready {blocks} {blocks'} {lit} {lit'} {plan} {n} {cylinders} ready whole =
    let long : length blocks' ≡ 32 * cylinders = ap length whole.after ∙ wrote_length blocks plan ∙ ready.long in
    record { on = whole.on; long = omega arith; some = omega (arith, ready.some); few = omega (arith, ready.few) }

pub ready_cylinders : {blocks : List Block} {lit : Bool} {cylinders : ℕ} → Ready blocks lit cylinders → cylinders_of blocks ≡ cylinders
ready_cylinders {blocks} {lit} {cylinders} ready = ap (λ n. n / 32) ready.long ∙ omega arith

-- nothing stored yet
pub none_stored : {blocks : List Block} {lit : Bool} {cylinders : ℕ} → Ready blocks lit cylinders → Whole blocks [] 0 blocks lit
none_stored ready = record { counted = refl; after = refl; on = ready.on }

-- one list, then the next
pub whole_then : {blocks mid after : List Block} {lit_mid lit_after : Bool} {p q : List Write} {m n : ℕ} →
    Whole blocks p m mid lit_mid → Whole mid q n after lit_after → Whole blocks (p ++ q) (m + n) after lit_after
whole_then {blocks} {mid} {after} {lit_mid} {lit_after} {p} {q} {m} {n} first second = record {
  counted = ap₂ ◌+◌ first.counted second.counted ∙ sym (length-append p q);
  after = second.after ∙ ap (λ xs. wrote xs q) first.after ∙ sym (wrote_append blocks p q);
  on = second.on;
}

pub whole_cut : {blocks mid after : List Block} {lit_mid lit_after : Bool} {p q : List Write} {m : ℕ} →
    Whole blocks p m mid lit_mid → Went mid q after lit_after → Went blocks (p ++ q) after lit_after
whole_cut {blocks} {mid} {after} {lit_mid} {lit_after} {p} {q} first second = record {
  cut = cut_back blocks p q after (subst (λ xs. CutIn xs q after) first.after second.cut);
  off = second.off;
}

-- power that fails in a list fails in each longer one
pub cut_longer : {blocks after : List Block} {lit_after : Bool} (p q : List Write) → Went blocks p after lit_after → Went blocks (p ++ q) after lit_after
cut_longer {blocks} {after} p q went = record { cut = cut_front blocks p q after went.cut; off = went.off }

-- power that fails at cylinder c fails in the lists of all
pub went_planned : {blocks mid after : List Block} {lit_mid lit_after : Bool} (f : ℕ → List Write) (c n m : ℕ) → c < n →
    Whole blocks (planned f c) m mid lit_mid → Went mid (f c) after lit_after → Went blocks (planned f n) after lit_after
unfolding planned
went_planned f c zero m h first second = absurd (omega arith)
went_planned {blocks} {mid} {after} {lit_mid} {lit_after} f c (suc n) m h first second =
    ⊎_elim
    (λ (e : c ≡ n). subst (λ k. Went blocks (planned f k ++ f k) after lit_after) e (whole_cut first second))
    (λ ne. cut_longer (planned f n) (f n) (went_planned f c n m (omega arith) first second))
    (cases_eq c n)

-- a plan, and then the list that another makes of the blocks it leaves
pub whole_next : {blocks mid after : List Block} {lit_mid lit_after : Bool} {p : List Write} {m n : ℕ} (q : List Block → List Write) →
    Whole blocks p m mid lit_mid → Whole mid (q mid) n after lit_after → Whole blocks (p ++ q (wrote blocks p)) (m + n) after lit_after
whole_next {blocks} {mid} {after} {lit_mid} {lit_after} {p} {m} {n} q first second =
    whole_then first (subst (λ xs. Whole mid (q xs) n after lit_after) first.after second)

pub cut_next : {blocks mid after : List Block} {lit_mid lit_after : Bool} {p : List Write} {m : ℕ} (q : List Block → List Write) →
    Whole blocks p m mid lit_mid → Went mid (q mid) after lit_after → Went blocks (p ++ q (wrote blocks p)) after lit_after
cut_next {blocks} {mid} {after} {lit_mid} {lit_after} {p} {m} q first second =
    whole_cut first (subst (λ xs. Went mid (q xs) after lit_after) first.after second)

-- a list that is carried on only if it holds something
pub closing_none : {blocks after : List Block} {lit_after : Bool} (p rest : List Write) → Whole blocks p 0 after lit_after → Whole blocks (closing p rest) 0 after lit_after
closing_none [] rest whole = whole
closing_none (w ∷ p) rest whole = absurd (let z : ◌≡◌ {A = ℕ} 0 (suc (length p)) = whole.counted in omega arith)

pub closing_on : {blocks after : List Block} {lit_after : Bool} {m : ℕ} (p rest : List Write) → (m ≡ 0 → ⊥) → Whole blocks p m after lit_after → closing p rest ≡ p ++ rest
closing_on [] rest some whole = absurd (some whole.counted)
closing_on (w ∷ p) rest some whole = refl

pub closing_cut : {blocks after : List Block} {lit_after : Bool} (p rest : List Write) → Went blocks p after lit_after → Went blocks (closing p rest) after lit_after
closing_cut [] rest went = absurd went.cut
closing_cut (w ∷ p) rest went = cut_longer (w ∷ p) rest went
