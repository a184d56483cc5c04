-- Marks that have grown as far as they can are exact: which symbols may be empty, which derive a token string, which a nonempty one.
use Rattle.std.proofs.Common.{◌≡◌, refl, sym, ap, ap₂, subst, ◌∙◌, Bool, true, false, ◌&&◌, not, List, [], ◌∷◌, ◌++◌, ℕ, ◌<◌, get_or, replicate}
use mathlib.Core.List.{cons≢nil}
use Rattle.laws.proofs.Tests.{either_way}
use Rattle.laws.proofs.Decides.{true_false, false_true}
use Rattle.written.specs.Lists.{In, Each}
use Rattle.written.specs.Lists.In.{here, there}
use Rattle.written.specs.Lists.Each.{and}
use Rattle.written.specs.Written.{WrittenRule, Written, Writes, Becomes, Tokens, MayBeEmpty, no_written}
use Rattle.written.specs.Written.Becomes.{nothing, stays, by_rule}
use Rattle.written.specs.Written.Tokens.{none_left, one_more}
use Rattle.written.specs.Refusals.{Nonterminal, Fruitful, Stays}
use Rattle.written.proofs.Lists.{at_in}
use Rattle.written.proofs.Keeping.{tokens-join, tokens-part}
use Rattle.written.proofs.Marking.{all-marked}
use Rattle.written.proofs.Knowing.{Lawful, rule-becomes, token-stays, every_fruitful, all-filled}
use Rattle.std.specs.List.{list_all, list_any}
use Rattle.translation.specs.inner.Marks.{most_symbols, marked, MarksAre, asked, firing, AllFrom, SomeFrom, From, Grown}
use Rattle.translation.proofs.Testing.{Some, true_each, true_some}
use Rattle.translation.proofs.Marked.{OnlyBelow, none_marked}

-- Of a rule that does not fire, the left side is marked where the right side would mark it.
rests-all : (marks : List Bool) (r : WrittenRule) → firing true marks r ≡ false → list_all (marked marks) r.right ≡ true → marked marks r.left ≡ true
unfolding firing asked
rests-all marks r e h = either_way (marked marks r.left) (λ m. m)
    (λ m. absurd (true_false (sym (ap₂ ◌&&◌ (ap not m) h) ∙ e)))

rests-some : (marks : List Bool) (r : WrittenRule) → firing false marks r ≡ false → list_any (marked marks) r.right ≡ true → marked marks r.left ≡ true
unfolding firing asked
rests-some marks r e h = either_way (marked marks r.left) (λ m. m)
    (λ m. absurd (true_false (sym (ap₂ ◌&&◌ (ap not m) h) ∙ e)))

-- The marks are closed under the rules.
closed_all : (w : Written) (before marks : List Bool) → Grown true w before marks → (r a : ℕ) (ω : List ℕ) → Writes w r a ω
    → Each (λ (x : ℕ). marked marks x ≡ true) ω → marked marks a ≡ true
closed_all w before marks g r a ω h e =
    subst (λ (x : ℕ). marked marks x ≡ true) h.left
    (rests-all marks (get_or w.rules r no_written) (g.rest (get_or w.rules r no_written) (at_in w.rules r no_written h.there))
    (subst (λ (l : List ℕ). list_all (marked marks) l ≡ true) (sym h.right) (true_each (marked marks) e)))

closed_some : (w : Written) (before marks : List Bool) → Grown false w before marks → {r a x : ℕ} {ω : List ℕ} → Writes w r a ω → In x ω
    → marked marks x ≡ true → marked marks a ≡ true
closed_some w before marks g {r} h i m =
    subst (λ (x : ℕ). marked marks x ≡ true) h.left
    (rests-some marks (get_or w.rules r no_written) (g.rest (get_or w.rules r no_written) (at_in w.rules r no_written h.there))
    (subst (λ (l : List ℕ). list_any (marked marks) l ≡ true) (sym h.right) (true_some (marked marks) i m)))

-- What all symbols come of, and what one does.
from_all : {w : Written} {B : ℕ → Type 0} {a : ℕ} → From true w B a → AllFrom w B (a ∷ [])
unfolding From
from_all f = f

from_some : {w : Written} {B : ℕ → Type 0} {a : ℕ} → From false w B a → SomeFrom w B a
unfolding From
from_some f = f

first-marked : {P : ℕ → Type 0} {a : ℕ} {l : List ℕ} → Each P (a ∷ l) → P a
first-marked (and p q) = p

-- What comes of nothing becomes nothing.
none_becomes : {w : Written} {B : ℕ → Type 0} {α : List ℕ} → ((x : ℕ) → B x → ⊥) → AllFrom w B α → Becomes w α []
none_becomes n AllFrom.nothing = nothing
none_becomes n (AllFrom.begun {x = x} b q) = absurd (n x b)
none_becomes n (AllFrom.by_rule h o q) = by_rule h (none_becomes n o) (none_becomes n q)

both-empty : (u v : List ℕ) → u ≡ [] → v ≡ [] → u ++ v ≡ []
both-empty u v e f = ap₂ ◌++◌ e f

empty-both : (u v : List ℕ) → u ++ v ≡ [] → (u ≡ []) × (v ≡ [])
empty-both [] v e = (refl, e)
empty-both (x ∷ u) v e = absurd (cons≢nil e)

-- Grown from none: the symbols that may be empty.
pub empties-exact : (w : Written) (marks : List Bool) → Grown true w (replicate most_symbols false) marks → MarksAre (MayBeEmpty w) marks
empties-exact w marks g = record {
  long = g.long;
  right = λ a. record {
    if_yes = λ e. none_becomes (λ x b. false_true (sym (none_marked most_symbols x) ∙ b)) (from_all (g.sound a e));
    if_no = λ e p. true_false (sym (first-marked (all-marked w (λ (l : List ℕ). l ≡ []) refl both-empty empty-both (λ (x : ℕ). marked marks x ≡ true)
        (λ x f. absurd (cons≢nil f)) (closed_all w (replicate most_symbols false) marks g) p refl)) ∙ e);
  };
}

-- A token string that a list of symbols becomes.
record TokensOf (w : Written) (α : List ℕ) : Type 0 where
  string : List ℕ
  tokens : Tokens w string
  becomes : Becomes w α string

-- What comes of tokens becomes tokens.
tokens_strung : {w : Written} {B : ℕ → Type 0} {α : List ℕ} → ((x : ℕ) → B x → x < w.tokens) → AllFrom w B α → TokensOf w α
tokens_strung t AllFrom.nothing = record { string = []; tokens = none_left; becomes = nothing }
tokens_strung t (AllFrom.begun {x = x} b q) =
    let r = tokens_strung t q in
    record { string = x ∷ r.string; tokens = one_more (t x b) r.tokens; becomes = stays r.becomes }
tokens_strung t (AllFrom.by_rule h o q) =
    let s = tokens_strung t o in
    let r = tokens_strung t q in
    record { string = s.string ++ r.string; tokens = tokens-join s.tokens r.tokens; becomes = by_rule h s.becomes r.becomes }

-- Grown from the tokens: the symbols that derive a token string.
pub fruitful-exact : (w : Written) (tokens marks : List Bool) → OnlyBelow w.tokens tokens → Grown true w tokens marks → MarksAre (Fruitful w) marks
fruitful-exact w tokens marks o g = record {
  long = g.long;
  right = λ a. record {
    if_yes = λ e. let s = tokens_strung o.only (from_all (g.sound a e)) in record { string = s.string; gives = record { tokens = s.tokens; becomes = s.becomes } };
    if_no = λ e f. true_false (sym (first-marked (all-marked w (Tokens w) none_left (λ u v. tokens-join) tokens-part (λ (x : ℕ). marked marks x ≡ true)
        a_token (closed_all w tokens marks g) f.gives.becomes f.gives.tokens)) ∙ e);
  };
}
  where
    a_token : (x : ℕ) → Tokens w (x ∷ []) → marked marks x ≡ true
    a_token x (one_more h t) = g.kept x (o.below x h)

-- Grown from the tokens where one symbol is enough: the symbols that derive a nonempty one.
module _ (w : Written) (lawful : Lawful w) (fruit : (a : ℕ) → Nonterminal w a → Fruitful w a) (tokens marks : List Bool) (o : OnlyBelow w.tokens tokens)
    (g : Grown false w tokens marks) where
  some-stays : {a : ℕ} → SomeFrom w (λ (x : ℕ). marked tokens x ≡ true) a → Stays w a
  some-stays (SomeFrom.begun {x = x} b) = token-stays w x (o.only x b)
  some-stays (SomeFrom.by_rule h i s) =
      let f = all-filled w (every_fruitful w fruit) (lawful.symbols h) i (some-stays s) in
      record {
        string = f.strung.string;
        gives = record { tokens = f.strung.tokens; becomes = rule-becomes h f.strung.becomes };
        filled = f.filled;
      }

  more-marked : (x : ℕ) {α : List ℕ} → Some (marked marks) α → Some (marked marks) (x ∷ α)
  more-marked x s = record { symbol = s.symbol; within = there s.within; passes = s.passes }

  some-marked : {α β : List ℕ} → Becomes w α β → Tokens w β → (β ≡ [] → ⊥) → Some (marked marks) α
  some-marked nothing t n = absurd (n refl)
  some-marked (stays {x = x} p) (one_more h t) n = record { symbol = x; within = here; passes = g.kept x (o.below x h) }
  some-marked (by_rule {a = a} {γ = u} {α = α} {β = v} h p q) t n =
      let ts = tokens-part u v t in
      by_front u (λ m. some-marked p ts.0 m) (λ m. some-marked q ts.1 m) h n
    where
      by_front : {r : ℕ} {ω : List ℕ} (l : List ℕ) → ((l ≡ [] → ⊥) → Some (marked marks) ω) → ((v ≡ [] → ⊥) → Some (marked marks) α) → Writes w r a ω
          → (l ++ v ≡ [] → ⊥) → Some (marked marks) (a ∷ α)
      by_front [] front back wr m = more-marked a (back m)
      by_front (y ∷ l) front back wr m =
          let s = front cons≢nil in
          record { symbol = a; within = here; passes = closed_some w tokens marks g wr s.within s.passes }

  alone : {a : ℕ} → Some (marked marks) (a ∷ []) → marked marks a ≡ true
  alone s = one s.within s.passes
    where
      one : {a x : ℕ} → In x (a ∷ []) → marked marks x ≡ true → marked marks a ≡ true
      one here m = m
      one (there i) m = elim i [ ]

  pub staying-exact : MarksAre (Stays w) marks
  staying-exact = record {
    long = g.long;
    right = λ a. record {
      if_yes = λ e. some-stays (from_some (g.sound a e));
      if_no = λ e s. true_false (sym (alone (some-marked s.gives.becomes s.gives.tokens s.filled)) ∙ e);
    };
  }
