-- Two answers that meet a statement are one, and so are the places that they leave.
use Rattle.std.proofs.Common.{◌≡◌, refl, ap, List, ◌++◌, ℕ, ◌<◌, arith, length, drop}
use Rattle.node.specs.Answers.{done, no_node}
use Rattle.laws.specs.Fills.{too_short}
use Rattle.forest.specs.Trees.{Tree, preorder}
use Rattle.forest.specs.Lists.{At, first, later}
use Rattle.trees.specs.Faults.{LowestFault, Sound}
use Rattle.trees.specs.Answers.{Answer, answer, position, words, needed, Counts, Tells}

-- One lowest fault, and none where nothing is faulty.
one_lowest : {store : List ℕ} {h s q : ℕ} → LowestFault store h s → LowestFault store h q → s ≡ q
one_lowest {s = s} {q = q} a b = omega (arith, a.lowest q b.below b.faulty, b.lowest s a.below a.faulty)

pub no_fault : {store : List ℕ} {h s : ℕ} → LowestFault store h s → Sound store h → ⊥
no_fault {s = s} f sound = sound.sound s f.below f.faulty

pub counts_agree : {store : List ℕ} {h : ℕ} {a b : Answer} → Counts store h a → Counts store h b → a ≡ b
counts_agree (Counts.fault f) (Counts.fault g) = ap (λ s. answer no_node (position s)) (one_lowest f g)
counts_agree (Counts.fault f) (Counts.over s big) = absurd (no_fault f s)
counts_agree (Counts.fault f) (Counts.number s small) = absurd (no_fault f s)
counts_agree (Counts.over s big) (Counts.fault f) = absurd (no_fault f s)
counts_agree (Counts.over s big) (Counts.over s' big') = refl
counts_agree (Counts.over s big) (Counts.number s' small) = absurd (omega arith)
counts_agree (Counts.number s small) (Counts.fault f) = absurd (no_fault f s)
counts_agree (Counts.number s small) (Counts.over s' big) = absurd (omega arith)
counts_agree (Counts.number s small) (Counts.number s' small') = refl

-- The k-th member is one, and there is one only before the end.
pub at_one : {A : Type 0} {l : List A} {k : ℕ} {x y : A} → At l k x → At l k y → x ≡ y
at_one first first = refl
at_one (later a) (later b) = at_one a b

pub at_inside : {A : Type 0} {l : List A} {k : ℕ} {x : A} → At l k x → k < length l
at_inside first = omega arith
at_inside (later a) = omega (arith, at_inside a)

pub record SameTold (a : Answer) (out : List ℕ) (b : Answer) (out' : List ℕ) : Type 0 where
  pub answer : a ≡ b
  pub place : out ≡ out'

same-words : {l : List Tree} {k : ℕ} {d e : Tree} → At l k d → At l k e → length (preorder d) ≡ length (preorder e)
same-words a b = ap (λ d. length (preorder d)) (at_one a b)

module _ {store : List ℕ} {h k : ℕ} {place : List ℕ} where
  pub tells_agree : {a b : Answer} {out out' : List ℕ} → Tells store h k place a out → Tells store h k place b out' → SameTold a out b out'
  tells_agree (Tells.fault f) (Tells.fault g) = record { answer = ap (λ s. Answer.answer no_node (position s)) (one_lowest f g); place = refl }
  tells_agree (Tells.fault f) (Tells.none s past) = absurd (no_fault f s)
  tells_agree (Tells.fault f) (Tells.short s at less) = absurd (no_fault f s)
  tells_agree (Tells.fault f) (Tells.written s at fits) = absurd (no_fault f s)
  tells_agree (Tells.none s past) (Tells.fault f) = absurd (no_fault f s)
  tells_agree (Tells.none s past) (Tells.none s' past') = record { answer = refl; place = refl }
  tells_agree (Tells.none s past) (Tells.short s' at less) = absurd (omega (arith, at_inside at))
  tells_agree (Tells.none s past) (Tells.written s' at fits) = absurd (omega (arith, at_inside at))
  tells_agree (Tells.short s at less) (Tells.fault f) = absurd (no_fault f s)
  tells_agree (Tells.short s at less) (Tells.none s' past) = absurd (omega (arith, at_inside at))
  tells_agree (Tells.short s at less) (Tells.short s' at' less') =
      record { answer = ap (λ d. Answer.answer too_short (words (needed (length (preorder d))))) (at_one at at'); place = refl }
  tells_agree (Tells.short s at less) (Tells.written s' at' fits) = absurd (omega (arith, same-words at at'))
  tells_agree (Tells.written s at fits) (Tells.fault f) = absurd (no_fault f s)
  tells_agree (Tells.written s at fits) (Tells.none s' past) = absurd (omega (arith, at_inside at))
  tells_agree (Tells.written s at fits) (Tells.short s' at' less) = absurd (omega (arith, same-words at at'))
  tells_agree (Tells.written s at fits) (Tells.written s' at' fits') = record {
    answer = ap (λ d. Answer.answer done (words (length (preorder d)))) (at_one at at');
    place = ap (λ d. preorder d ++ drop (length (preorder d)) place) (at_one at at');
  }
