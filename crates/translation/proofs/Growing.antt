-- Marks that grow by walks over the rules: each walk that marks something leaves fewer unmarked, and one that does not leaves no rule that fires.
use Rattle.std.proofs.Common.{◌≡◌, refl, sym, ap, subst, ◌∙◌, Bool, true, false, ◌&&◌, not, List, [], ◌∷◌, ⊎_elim, ℕ, ◌≤◌, ◌<◌, arith, length, set, length-set}
use borrow.Author.Tests.{not-true}
use Rattle.laws.proofs.Tests.{either_way, both_true}
use Rattle.laws.proofs.Decides.{false_true, true_false}
use Rattle.grammar.proofs.Marks.{mark_kept, mark_old}
use Rattle.grammar.proofs.Rounds.{unmarked, unmarked_less}
use Rattle.written.specs.Lists.{In, Each}
use Rattle.written.specs.Lists.In.{here, there}
use Rattle.written.specs.Lists.Each.{end, and}
use Rattle.written.specs.Written.{WrittenRule, Written}
use Rattle.written.proofs.Lists.{each_in, each_map}
use Rattle.written.proofs.Knowing.{in_writes}
use Rattle.std.specs.List.{list_all, list_any}
use Rattle.translation.specs.inner.Marks.{most_symbols, marked, asked, firing, Turn, turn, walk, growing, AllFrom, SomeFrom, From, Grown}
use Rattle.translation.proofs.Testing.{each_true, some_true}

-- A step marks, or does nothing.
pub growing_fires : (all : Bool) (s : Turn) (r : WrittenRule) → firing all s.marks r ≡ true → growing all s r ≡ turn (set s.marks r.left true) true
unfolding growing
growing_fires all s r e = rw (growing, e) refl

pub growing-rests : (all : Bool) (s : Turn) (r : WrittenRule) → firing all s.marks r ≡ false → growing all s r ≡ s
unfolding growing
growing-rests all s r e = rw (growing, e) refl

-- The same by the answer of a test.
pub step_rests : (all : Bool) (s : Turn) (r : WrittenRule) {answer : Bool} → answer ≡ firing all s.marks r → answer ≡ false → s ≡ growing all s r
step_rests all s r e n = sym (growing-rests all s r (sym e ∙ n))

pub step_fires : (all : Bool) (s : Turn) (r : WrittenRule) {a : ℕ} {answer : Bool} → a ≡ r.left → answer ≡ firing all s.marks r → answer ≡ true
    → turn (set s.marks a true) true ≡ growing all s r
step_fires all s r ea e y = ap (λ (x : ℕ). turn (set s.marks x true) true) ea ∙ sym (growing_fires all s r (sym e ∙ y))

-- What each step keeps a walk keeps.
pub walk-keeps : {S : Type 0} (P : S → Type 0) (step : S → WrittenRule → S) (rules : List WrittenRule) → ((r : WrittenRule) → In r rules → (s : S) → P s → P (step s r))
    → (s : S) → P s → P (walk step s rules)
unfolding walk
walk-keeps P step [] keeps s p = p
walk-keeps P step (r ∷ rules) keeps s p = walk-keeps P step rules (λ q i. keeps q (there i)) (step s r) (keeps r here s p)

-- The test of a rule by its parts.
pub firing_not : (all : Bool) (marks : List Bool) (r : WrittenRule) {a : ℕ} → a ≡ r.left → marked marks a ≡ true → not (marked marks a) ≡ firing all marks r
unfolding firing
firing_not all marks r e m = ap not m ∙ sym (ap (λ (b : Bool). not b && asked all (marked marks) r.right) (ap (marked marks) (sym e) ∙ m))

pub firing-passes : (all : Bool) (marks : List Bool) (r : WrittenRule) {a : ℕ} {answer : Bool} → a ≡ r.left → marked marks a ≡ false → answer ≡ asked all (marked marks) r.right
    → answer ≡ firing all marks r
unfolding firing
firing-passes all marks r e m h = h ∙ sym (ap (λ (b : Bool). not b && asked all (marked marks) r.right) (ap (marked marks) (sym e) ∙ m))

-- Of a rule that fires the left side is not marked.
firing-left : (all : Bool) (marks : List Bool) (r : WrittenRule) → firing all marks r ≡ true → marked marks r.left ≡ false
unfolding firing
firing-left all marks r e = not-true _ (both_true (not (marked marks r.left)) (asked all (marked marks) r.right) e).0

-- What all symbols of a list come of, they come of together.
all_from : {w : Written} {B : ℕ → Type 0} {α : List ℕ} → Each (λ (x : ℕ). AllFrom w B (x ∷ [])) α → AllFrom w B α
all_from end = AllFrom.nothing
all_from (and p q) = from_more p (all_from q)
  where
    from_more : {w : Written} {B : ℕ → Type 0} {x : ℕ} {α : List ℕ} → AllFrom w B (x ∷ []) → AllFrom w B α → AllFrom w B (x ∷ α)
    from_more (AllFrom.begun b n) q = AllFrom.begun b q
    from_more (AllFrom.by_rule h o n) q = AllFrom.by_rule h o q

-- What is there at the beginning comes of it.
from_begins : (w : Written) (B : ℕ → Type 0) (all : Bool) (a : ℕ) → B a → From all w B a
unfolding From
from_begins w B true a b = AllFrom.begun b AllFrom.nothing
from_begins w B false a b = SomeFrom.begun b

-- The left side of a rule that fires comes of what its right side comes of.
fired : (all : Bool) (w : Written) (B : ℕ → Type 0) (marks : List Bool) → ((a : ℕ) → marked marks a ≡ true → From all w B a) → (r : WrittenRule) → In r w.rules
    → firing all marks r ≡ true → From all w B r.left
unfolding From firing asked
fired true w B marks sound r i e =
    let right = (both_true (not (marked marks r.left)) (list_all (marked marks) r.right) e).1 in
    AllFrom.by_rule (in_writes w i).writes (all_from (each_map sound (each_true (marked marks) r.right right))) AllFrom.nothing
fired false w B marks sound r i e =
    let right = some_true (marked marks) r.right (both_true (not (marked marks r.left)) (list_any (marked marks) r.right) e).1 in
    SomeFrom.by_rule (in_writes w i).writes right.within (sound right.symbol right.passes)

module _ (all : Bool) (w : Written) (before : List Bool) where
  -- Marks that are right so far: they have those at the beginning, and what comes of these.
  pub record Growth (marks : List Bool) : Type 0 where
    pub long : length marks ≡ most_symbols
    pub kept : (a : ℕ) → marked before a ≡ true → marked marks a ≡ true
    pub sound : (a : ℕ) → marked marks a ≡ true → From all w (λ (x : ℕ). marked before x ≡ true) a

  pub growth_begins : length before ≡ most_symbols → Growth before
  growth_begins h = record { long = h; kept = λ a e. e; sound = λ a e. from_begins w (λ (x : ℕ). marked before x ≡ true) all a e }

  -- A walk over rules whose left sides are within the marks keeps them right, and leaves fewer unmarked where it marked something.
  record During (start : List Bool) (s : Turn) : Type 0 where
    right : Growth s.marks
    fewer : s.more ≡ true → unmarked s.marks < unmarked start
    no_more : unmarked s.marks ≤ unmarked start

  step_during : (start : List Bool) (r : WrittenRule) → In r w.rules → r.left < most_symbols → (s : Turn) → During start s → During start (growing all s r)
  step_during start r i low s d = either_way (firing all s.marks r)
      (λ e. subst (During start) (sym (growing_fires all s r e)) (marks_one e))
      (λ e. subst (During start) (sym (growing-rests all s r e)) d)
    where
      inside : r.left < length s.marks
      inside = omega (arith, d.right.long)

      less : firing all s.marks r ≡ true → unmarked (set s.marks r.left true) < unmarked s.marks
      less e = unmarked_less s.marks r.left inside (firing-left all s.marks r e)

      marks_one : firing all s.marks r ≡ true → During start (turn (set s.marks r.left true) true)
      marks_one e = record {
        right = record {
          long = length-set s.marks r.left true ∙ d.right.long;
          kept = λ a h. mark_kept s.marks r.left a (d.right.kept a h) inside;
          sound = λ a m. ⊎_elim
              (λ (x : a ≡ r.left). subst (From all w (λ (y : ℕ). marked before y ≡ true)) (sym x) (fired all w (λ (y : ℕ). marked before y ≡ true) s.marks d.right.sound r i e))
              (λ o. d.right.sound a o)
              (mark_old s.marks r.left a m);
        };
        fewer = λ x. omega (arith, less e, d.no_more);
        no_more = omega (arith, less e, d.no_more);
      }

  walk_during : (start : List Bool) → ((r : WrittenRule) → In r w.rules → r.left < most_symbols) → Growth start → During start (walk (growing all) (turn start false) w.rules)
  walk_during start low g =
      walk-keeps (During start) (growing all) w.rules (λ r i s d. step_during start r i (low r i) s d) (turn start false)
      (record { right = g; fewer = λ e. absurd (false_true e); no_more = omega arith })

  -- What a walk leaves is right, and where it marked something fewer are unmarked.
  pub growth_on : (start marks : List Bool) (more : Bool) → ((r : WrittenRule) → In r w.rules → r.left < most_symbols) → Growth start
      → turn marks more ≡ walk (growing all) (turn start false) w.rules → Growth marks
  growth_on start marks more low g e = subst (λ (s : Turn). Growth s.marks) (sym e) (walk_during start low g).right

  pub growth_less : (start marks : List Bool) (more : Bool) → ((r : WrittenRule) → In r w.rules → r.left < most_symbols) → Growth start
      → turn marks more ≡ walk (growing all) (turn start false) w.rules → more ≡ true → unmarked marks < unmarked start
  growth_less start marks more low g e =
      subst (λ (s : Turn). s.more ≡ true → unmarked s.marks < unmarked start) (sym e) (walk_during start low g).fewer

-- A walk that has marked something says so to its end.
walk_more : (all : Bool) (rules : List WrittenRule) (s : Turn) → s.more ≡ true → (walk (growing all) s rules).more ≡ true
walk_more all rules s e = walk-keeps (λ (t : Turn). t.more ≡ true) (growing all) rules
    (λ r i t h. either_way (firing all t.marks r)
    (λ f. ap (λ (u : Turn). u.more) (growing_fires all t r f))
    (λ f. ap (λ (u : Turn). u.more) (growing-rests all t r f) ∙ h))
    s e

-- One that has marked nothing found no rule that fires, and left the marks as they were.
quiet : (all : Bool) (marks : List Bool) (rules : List WrittenRule) → (walk (growing all) (turn marks false) rules).more ≡ false
    → Each (λ (r : WrittenRule). firing all marks r ≡ false) rules × ((walk (growing all) (turn marks false) rules).marks ≡ marks)
unfolding walk
quiet all marks [] e = (end, refl)
quiet all marks (r ∷ rules) e = either_way (firing all marks r)
    (λ f. absurd (true_false
    (sym (walk_more all rules (turn (set marks r.left true) true) refl)
    ∙ sym (ap (λ (s : Turn). (walk (growing all) s rules).more) (growing_fires all (turn marks false) r f)) ∙ e)))
    (λ f.
    let same = growing-rests all (turn marks false) r f in
    let q = quiet all marks rules (sym (ap (λ (s : Turn). (walk (growing all) s rules).more) same) ∙ e) in
    (and f q.0, ap (λ (s : Turn). (walk (growing all) s rules).marks) same ∙ q.1))

-- So then the marks have grown as far as they can.
pub grown : (all : Bool) (w : Written) (before start marks : List Bool) (more : Bool) → Growth all w before start
    → turn marks more ≡ walk (growing all) (turn start false) w.rules → more ≡ false → Grown all w before marks
grown all w before start marks more g e n =
    let q = quiet all start w.rules (sym (ap (λ (s : Turn). s.more) e) ∙ n) in
    let same : marks ≡ start = ap (λ (s : Turn). s.marks) e ∙ q.1 in
    record {
      long = ap length same ∙ g.long;
      kept = λ a h. ap (λ (m : List Bool). marked m a) same ∙ g.kept a h;
      sound = λ a h. g.sound a (sym (ap (λ (m : List Bool). marked m a) same) ∙ h);
      rest = λ r i. ap (λ (m : List Bool). firing all m r) same ∙ each_in q.0 i;
    }
