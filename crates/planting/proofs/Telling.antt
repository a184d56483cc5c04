-- What count and tree tell under a handle that finished has told.
use Rattle.std.proofs.Common.{◌≡◌, refl, sym, ap, subst, Bool, true, List, ◌∷◌, [], ◌++◌, ℕ, suc, ◌≤◌, arith, length, drop}
use mathlib.Core.Bool.{false≢true}
use mathlib.Core.List.Memᴰ.{head as here}
use mathlib.Core.List.{Memᴰ as Member}
use Rattle.grammar.specs.Rules.{Grammar, start}
use Rattle.grammar.specs.Accepted.{Accepted}
use Rattle.grammar.specs.File.{grammar_of}
use Rattle.node.specs.Answers.{done}
use Rattle.parse.specs.declared.State.{State}
use Rattle.parse.specs.Words.{Words, within}
use Rattle.earley.specs.Positions.{Positions, plain}
use Rattle.demands.specs.Steps.{last_wraps, finished_handle}
use Rattle.demands.specs.Calls.{Formed, Finishes}
use Rattle.demands.specs.Histories.{History}
use Rattle.demands.proofs.Examples.{file_a, file_k, words_k1, both_k}
use Rattle.forest.specs.Trees.{Tree, leaf, one, Derivation, preorder}
use Rattle.forest.specs.Lists.{At}
use Rattle.forest.specs.Forests.{of_node, listed}
use Rattle.forest.specs.Stores.{node_at, trees_at}
use Rattle.forest.proofs.Examples.{word}
use Rattle.forest.proofs.Order.{in_order}
use Rattle.forest.proofs.Rooted.{Rooted, rooted_stays, listed-stays}
use Rattle.forest.proofs.Units.{Standing, standing-read, unit_store}
use Rattle.trees.specs.Answers.{Answer, answer, trees, Counts, Tells}
use Rattle.trees.specs.Faults.{Sound}
use Rattle.trees.proofs.Agree.{no_fault, at_one, at_inside}
use Rattle.trees.proofs.Planted.{rooted_sound}
use Rattle.planting.specs.Finished.{TreesOf}
use Rattle.planting.specs.Told.{CountsAll, TellsOne, Told, Later, FinishedTold}
use Rattle.planting.proofs.Lasting.{within-usable, stands, stands_wooded, last_rooted, finished-trees, plain-trees}
use Rattle.planting.proofs.Keeping.{same_onward, later_adds}
use Rattle.planting.proofs.Numbers.{one_number}
use Rattle.planting.proofs.Examples.{two_trees_a, handle_k, finished_k, are_k, two_trees_k}

-- Where nothing is faulty, count and tree answer of the list of trees.
module _ {store : List ℕ} {h : ℕ} (sound : Sound store h) where
  sound-counts : {a : Answer} → Counts store h a → CountsAll (trees_at store h) a
  sound-counts (Counts.fault f) = absurd (no_fault f sound)
  sound-counts (Counts.over s big) = CountsAll.over big
  sound-counts (Counts.number s small) = CountsAll.number small

  sound-tells : {k : ℕ} {place out : List ℕ} {a : Answer} → Tells store h k place a out → TellsOne (trees_at store h) k place a out
  sound-tells (Tells.fault f) = absurd (no_fault f sound)
  sound-tells (Tells.none s past) = TellsOne.none past
  sound-tells (Tells.short s at less) = TellsOne.short at less
  sound-tells (Tells.written s at fits) = TellsOne.written at fits

-- What tree writes of the k-th where the place is long enough.
tells_at : {l : List Tree} {k : ℕ} {d : Tree} {place out : List ℕ} {told : Answer} → At l k d → length (preorder d) ≤ length place
    → TellsOne l k place told out → out ≡ preorder d ++ drop (length (preorder d)) place
tells_at at fits (TellsOne.none past) = absurd (omega (arith, at_inside at))
tells_at at fits (TellsOne.short other less) = absurd (omega (arith, ap (λ d. length (preorder d)) (at_one at other)))
tells_at {place = place} at fits (TellsOne.written other enough) = ap (λ d. preorder d ++ drop (length (preorder d)) place) (at_one other at)

-- Count looks at nothing but how many there are.
as_many : {l m : List Tree} {a : Answer} → length l ≡ length m → CountsAll l a → CountsAll m a
as_many same (CountsAll.over big) = CountsAll.over (omega arith)
as_many {m = m} same (CountsAll.number small) =
    subst (λ n. CountsAll m (answer done (trees n))) (sym same) (CountsAll.number (omega arith))

-- S derives no leaf.
no_leaf : {g : Grammar} {t : ℕ} {ts : List ℕ} → Accepted g → Derivation g (leaf t) (start g) ts → ⊥
no_leaf {g} {t} {ts} accepted d = on d refl refl
  where
    on : {d : Tree} {x : ℕ} {w : List ℕ} → Derivation g d x w → d ≡ leaf t → x ≡ start g → ⊥
    on (Derivation.token small) is same = omega (arith, accepted.starts.no_token_lem)
    on (Derivation.unary says d) is same = let z : ◌≡◌ {A = ℕ} 0 1 = cc in omega arith
    on (Derivation.binary says two d e) is same = let z : ◌≡◌ {A = ℕ} 0 1 = cc in omega arith

-- Under a rooted handle that has the trees of S nothing is faulty.
pub planted-sound : {g : Grammar} {a : Positions} {store : List ℕ} {used h : ℕ} → Accepted g → TreesOf g a (trees_at store h) → Rooted (unit_store store) used h
    → Sound store h
planted-sound {store = store} {h = h} accepted every (Rooted.rooted st le low down) = by st
  where
    by : {b : ℕ} {n : _} → Standing store h b n → Sound store h
    by (Standing.sums ps row) = rooted_sound (Rooted.rooted st le low down) (standing-read (Standing.sums ps row))
    by (Standing.leaf {t = t} row) =
        let lists : trees_at store h ≡ leaf t ∷ [] = ap (of_node (listed (node_at store) h)) (standing-read (Standing.leaf row)) in
        absurd (no_leaf accepted ((every.all (leaf t)).0 (subst (Member (leaf t)) (sym lists) (here refl))).derivation)

told : {g : Grammar} {a : Positions} {store : List ℕ} {used h : ℕ} → Accepted g → TreesOf g a (trees_at store h) → Rooted (unit_store store) used h → Told g a store h
told {store = store} {h = h} accepted every root =
    let sound : Sound store h = planted-sound accepted every root in
    record {
      derivations = every;
      in_order = in_order (node_at store) (suc h) h;
      counts = λ other c. as_many (one_number every other) (sound-counts sound c);
      tells = sound-tells sound;
    }

-- The handle that finished tells, in the words that it read.
finished_rooted : {file : List ℕ} {s : State} {w : Words} {g : Grammar} {a : Positions} → Formed file s w g → History file s w a → last_wraps s (within w) ≡ true
    → Rooted (unit_store w.store) s.used (finished_handle s (within w))
finished_rooted {s = s} {w = w} formed h says =
    rooted_stays (same_onward (within w).store w.store s.used (within-usable w))
    (last_rooted formed.checked.accepted (stands_wooded (stands h) formed.checked) says)

-- COUNT AND TREE TELL THE DERIVATIONS, now and until the next start.
pub finished_told : {file : List ℕ} {s : State} {w : Words} {number : ℕ} {yes : Bool} {handle : ℕ} → Finishes file s w number yes handle
    → FinishedTold file s w yes handle
finished_told (Finishes.refused fault) = record {
  now = λ a h says. absurd (false≢true says);
  later = λ a h says l. absurd (false≢true says);
  same = λ a h says l. absurd (false≢true says);
}
finished_told {file} {s} {w} (Finishes.done {g = g} formed) = record {
  now = λ a h says. told accepted (all a h says) (finished_rooted formed h says);
  later = λ a h says l.
      told accepted (subst (TreesOf (grammar_of file) a) (sym (kept h says l)) (all a h says)) (rooted_stays (later_adds l) (finished_rooted formed h says));
  same = λ a h says l. kept h says l;
}
  where
    accepted : Accepted (grammar_of file)
    accepted = subst Accepted (sym formed.checked.is) formed.checked.accepted

    all : (a : Positions) → History file s w a → last_wraps s (within w) ≡ true → TreesOf (grammar_of file) a (trees_at w.store (finished_handle s (within w)))
    all = (finished-trees (Finishes.done formed)).trees

    kept : {a : Positions} → History file s w a → last_wraps s (within w) ≡ true → {s' : State} {w' : Words} → Later file s w s' w'
        → trees_at w'.store (finished_handle s (within w)) ≡ trees_at w.store (finished_handle s (within w))
    kept h says l =
        let handle : ℕ = finished_handle s (within w) in sym (listed-stays (later_adds l) (suc handle) handle (finished_rooted formed h says))

-- Two trees are counted as 2.
two : {d e : Tree} {told : Answer} → CountsAll (d ∷ e ∷ []) told → told ≡ answer done (trees 2)
two (CountsAll.over big) = absurd (omega arith)
two (CountsAll.number small) = refl

-- Wherever finished says yes of "0 1 0 1 0", count answers 2.
pub two_counted_a : {s : State} {w : Words} {number handle : ℕ} {told : Answer} → History file_a s w (plain word) → Finishes file_a s w number true handle
    → Counts w.store handle told → told ≡ answer done (trees 2)
two_counted_a h finishes c = two (((finished_told finishes).now (plain word) h refl).counts ((plain-trees word).1 two_trees_a) c)

-- And of a word that is 0 or 1, under K.
pub two_counted_k : {s : State} {w : Words} {number handle : ℕ} {told : Answer} → History file_k s w ((0 ∷ 1 ∷ []) ∷ []) → Finishes file_k s w number true handle
    → Counts w.store handle told → told ≡ answer done (trees 2)
two_counted_k h finishes c = two (((finished_told finishes).now ((0 ∷ 1 ∷ []) ∷ []) h refl).counts two_trees_k c)

-- Tree 0 is `2 1` there.
pub first_told_k : {place out : List ℕ} {told : Answer} → 2 ≤ length place → Tells words_k1.store handle_k 0 place told out → out ≡ 2 ∷ 1 ∷ drop 2 place
first_told_k fits t =
    tells_at (subst (λ l. At l 0 (one 2 (leaf 1))) (sym are_k) At.first) fits (((finished_told finished_k).now ((0 ∷ 1 ∷ []) ∷ []) both_k.history refl).tells t)
