-- Derivations by positions: three numbers instead of a word, as spans are to what symbols derive.
use Rattle.std.proofs.Common.{◌≡◌, refl, sym, ◌∙◌, subst, List, [], ◌∷◌, ◌++◌, ◌≢◌, ℕ, suc, ◌≤◌, ◌<◌, arith, length, get_or, length-append}
use mathlib.Core.List.{Memᴰ as Member}
use lib.ListN.{get_or-append}
use Rattle.grammar.specs.Rules.{Grammar, Says, none}
use Rattle.grammar.specs.Sentences.{Derives}
use Rattle.earley.specs.Positions.{Positions, Spelt, none as nothing, next}
use Rattle.earley.proofs.Spelling.{spelt-join, spelt-part}
use Rattle.earley.proofs.Spans.{Span, span_forward}
use Rattle.forest.specs.Trees.{Tree, leaf, one, two, Derivation}
use Rattle.forest.specs.Every.{Derived}

-- The parts of a tree, and itself where it has none.
abbrev pub root : Tree → ℕ
root (leaf t) = t
root (one r d) = r
root (two r d e) = r

abbrev pub left : Tree → Tree
left (leaf t) = leaf t
left (one r d) = d
left (two r d e) = d

abbrev pub right : Tree → Tree
right (leaf t) = leaf t
right (one r d) = d
right (two r d e) = e

abbrev pub arity : Tree → ℕ
arity (leaf t) = 0
arity (one r d) = 1
arity (two r d e) = 2

-- A symbol derives a word exactly when some tree is a derivation of it.
pub record Some (g : Grammar) (x : ℕ) (w : List ℕ) : Type 0 where
  pub tree : Tree
  pub derivation : Derivation g tree x w

pub derives-derivation : {g : Grammar} {x : ℕ} {w : List ℕ} → Derives g x w → Some g x w
derives-derivation (Derives.token h) = record { tree = leaf _; derivation = Derivation.token h }
derives-derivation (Derives.unary r d) =
    let p = derives-derivation d in
    record { tree = one _ p.tree; derivation = Derivation.unary r p.derivation }
derives-derivation (Derives.binary r n d e) =
    let p = derives-derivation d in
    let q = derives-derivation e in
    record { tree = two _ p.tree q.tree; derivation = Derivation.binary r n p.derivation q.derivation }

pub derivation-derives : {g : Grammar} {d : Tree} {x : ℕ} {w : List ℕ} → Derivation g d x w → Derives g x w
derivation-derives (Derivation.token h) = Derives.token h
derivation-derives (Derivation.unary r d) = Derives.unary r (derivation-derives d)
derivation-derives (Derivation.binary r n d e) = Derives.binary r n (derivation-derives d) (derivation-derives e)

-- `Grows g a d x i j`: the tree `d` is a derivation from `x` over the positions behind `i` up to `j`.
pub data Grows (g : Grammar) (a : Positions) : Tree → ℕ → ℕ → ℕ → Type 0 where
  token : {t i j : ℕ} → t < g.tokens → i < length a → Member t (get_or a i []) → j ≡ suc i → Grows g a (leaf t) t i j
  unary : {r x y i j : ℕ} {d : Tree} → Says g r x y none → Grows g a d y i j → Grows g a (one r d) x i j
  binary : {r x y z i k j : ℕ} {d e : Tree} → Says g r x y z → z ≢ none → Grows g a d y i k → Grows g a e z k j → Grows g a (two r d e) x i j

-- Where a tree grows its symbol spans.
pub grows_span : {g : Grammar} {a : Positions} {d : Tree} {x i j : ℕ} → Grows g a d x i j → Span g a x i j
grows_span (token l m e s) = Span.token l m e s
grows_span (unary r d) = Span.unary r (grows_span d)
grows_span (binary r n d e) = Span.binary r n (grows_span d) (grows_span e)

-- A tree that begins at one place ends at one place.
pub same_end : {g : Grammar} {a : Positions} {d : Tree} {x y i j k : ℕ} → Grows g a d x i j → Grows g a d y i k → j ≡ k
same_end (token l m e s) (token l' m' e' s') = s ∙ sym s'
same_end (unary r d) (unary s e) = same_end d e
same_end {g} {a} (binary {k = k} r n d e) (binary {z = z} {j = j} {e = u} s m f h) =
    same_end e (subst (λ p. Grows g a u z p j) (sym (same_end d f)) h)

-- Positions behind a tree do not matter: it stays when they come, and when they go.
pub grows_more : {g : Grammar} {a : Positions} {d : Tree} {x i j : ℕ} (b : Positions) → Grows g a d x i j → Grows g (a ++ b) d x i j
grows_more {a} b (token {t = t} {i = i} h l m s) =
    token {i = i} h (omega (arith, length-append a b)) (subst (Member t) (sym (get_or-append a b [] i l)) m) s
grows_more b (unary r d) = unary r (grows_more b d)
grows_more b (binary r n d e) = binary r n (grows_more b d) (grows_more b e)

pub grows_less : {g : Grammar} (a b : Positions) {d : Tree} {x i j : ℕ} → Grows g (a ++ b) d x i j → j ≤ length a → Grows g a d x i j
grows_less a b (token {t = t} {i = i} h l m s) n =
    let k : i < length a = omega arith in
    token h k (subst (Member t) (get_or-append a b [] i k) m) s
grows_less a b (unary r d) m = unary r (grows_less a b d m)
grows_less a b (binary r n d e) m =
    let p = span_forward (grows_span e) in
    binary r n (grows_less a b d (omega arith)) (grows_less a b e m)

-- A tree grows exactly over positions that spell a word of which it is a derivation.
pub grows_derived : {g : Grammar} {a : Positions} {d : Tree} {x i j : ℕ} → Grows g a d x i j → Derived g a d x i j
grows_derived {a} (token {t = t} {i = i} h l m s) =
    record { word = t ∷ []; spelt = subst (Spelt a i (t ∷ [])) (sym s) (next l m nothing); derivation = Derivation.token h }
grows_derived (unary r d) =
    let p = grows_derived d in
    record { word = p.word; spelt = p.spelt; derivation = Derivation.unary r p.derivation }
grows_derived (binary r n d e) =
    let p = grows_derived d in
    let q = grows_derived e in
    record {
      word = p.word ++ q.word;
      spelt = spelt-join p.spelt q.spelt;
      derivation = Derivation.binary r n p.derivation q.derivation;
    }

pub derived_grows : {g : Grammar} {a : Positions} {d : Tree} {x i j : ℕ} {w : List ℕ} → Derivation g d x w → Spelt a i w j → Grows g a d x i j
derived_grows (Derivation.token h) (next l m nothing) = token h l m refl
derived_grows (Derivation.unary r d) s = unary r (derived_grows d s)
derived_grows (Derivation.binary {u = u} {v = v} r n d e) s =
    let p = spelt-part u v s in
    binary r n (derived_grows d p.first) (derived_grows e p.second)
