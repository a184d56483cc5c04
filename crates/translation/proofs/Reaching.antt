-- Marks of what is reachable: a walk marks only that, and one that marks nothing leaves every symbol on the right of a marked left side marked.
use Rattle.std.proofs.Common.{◌≡◌, refl, sym, ap, subst, ◌∙◌, Bool, true, false, List, [], ◌∷◌, ⊎_elim, ℕ, ◌≤◌, ◌<◌, arith, length, set, replicate, length-set}
use lib.ListN.{length-replicate}
use Rattle.laws.proofs.Tests.{either_way}
use Rattle.laws.proofs.Decides.{false_true, true_false}
use Rattle.grammar.proofs.Marks.{mark_kept, mark_new, mark_old}
use Rattle.grammar.proofs.Rounds.{unmarked, unmarked_less}
use Rattle.written.specs.Lists.{In, Each}
use Rattle.written.specs.Lists.Each.{end, and}
use Rattle.written.specs.Written.{WrittenRule, Written, no_written}
use Rattle.written.specs.Refusals.{Reachable}
use Rattle.written.proofs.Lists.{each_in, each_at, in_each}
use Rattle.written.proofs.Knowing.{in_writes}
use Rattle.translation.specs.inner.Marks.{most_symbols, marked, MarksAre, Turn, turn, walk, marking, reaching}
use Rattle.translation.specs.inner.Symbols.{LowRule}
use Rattle.translation.proofs.Growing.{walk-keeps}
use Rattle.translation.proofs.Marked.{none_marked}

-- No symbol; one that is marked, or marked already.
pub nothing-marked : (s : Turn) → marking s [] ≡ s
unfolding marking
nothing-marked s = refl

pub marking-there : (s : Turn) (x : ℕ) (l : List ℕ) → marked s.marks x ≡ true → marking s (x ∷ l) ≡ marking s l
unfolding marking
marking-there s x l e = rw (marking, e) refl

pub marking-new : (s : Turn) (x : ℕ) (l : List ℕ) → marked s.marks x ≡ false → marking s (x ∷ l) ≡ marking (turn (set s.marks x true) true) l
unfolding marking
marking-new s x l e = rw (marking, e) refl

pub reaching_on : (s : Turn) (r : WrittenRule) → marked s.marks r.left ≡ true → reaching s r ≡ marking s r.right
unfolding reaching
reaching_on s r e = rw (reaching, e) refl

pub reaching-rests : (s : Turn) (r : WrittenRule) → marked s.marks r.left ≡ false → reaching s r ≡ s
unfolding reaching
reaching-rests s r e = rw (reaching, e) refl

-- The same by what was read.
pub step_rests : (s : Turn) (r : WrittenRule) {a : ℕ} → a ≡ r.left → marked s.marks a ≡ false → s ≡ reaching s r
step_rests s r e m = sym (reaching-rests s r (ap (marked s.marks) (sym e) ∙ m))

pub step_marks : (s : Turn) (r : WrittenRule) (t : Turn) {a : ℕ} → a ≡ r.left → marked s.marks a ≡ true → t ≡ marking s r.right → t ≡ reaching s r
step_marks s r t e m h = h ∙ sym (reaching_on s r (ap (marked s.marks) (sym e) ∙ m))

-- Symbol by symbol: what the symbols that are left make of the marks so far is what all make of those at the beginning.
pub record MarkingTo (total : Turn) (rest : List ℕ) (s : Turn) : Type 0 where
  pub same : marking s rest ≡ total

pub marks-there : {total : Turn} {rest more : List ℕ} {x : ℕ} (s : Turn) → MarkingTo total rest s → rest ≡ x ∷ more → marked s.marks x ≡ true → MarkingTo total more s
marks-there {more = more} {x} s m e h = record { same = sym (marking-there s x more h) ∙ sym (ap (marking s) e) ∙ m.same }

pub marks-new : {total : Turn} {rest more : List ℕ} {x : ℕ} (s : Turn) → MarkingTo total rest s → rest ≡ x ∷ more → marked s.marks x ≡ false
    → MarkingTo total more (turn (set s.marks x true) true)
marks-new {more = more} {x} s m e h = record { same = sym (marking-new s x more h) ∙ sym (ap (marking s) e) ∙ m.same }

pub marks-end : {total : Turn} {rest : List ℕ} (s : Turn) → MarkingTo total rest s → rest ≡ [] → s ≡ total
marks-end s m e = sym (nothing-marked s) ∙ sym (ap (marking s) e) ∙ m.same

module _ (w : Written) where
  -- Marks that are right so far.
  pub record Reach (marks : List Bool) : Type 0 where
    pub long : length marks ≡ most_symbols
    pub start : marked marks w.start ≡ true
    pub sound : (a : ℕ) → marked marks a ≡ true → Reachable w a

  reach_start : w.start < most_symbols → Reach (set (replicate most_symbols false) w.start true)
  reach_start h = record {
    long = length-set (replicate most_symbols false) w.start true ∙ length-replicate {A = Bool} most_symbols false;
    start = mark_new (replicate most_symbols false) w.start (let e = length-replicate {A = Bool} most_symbols false in omega arith);
    sound = λ a m. ⊎_elim
        (λ (e : a ≡ w.start). subst (Reachable w) (sym e) Reachable.from_start)
        (λ o. absurd (false_true (sym (none_marked most_symbols a) ∙ o)))
        (mark_old (replicate most_symbols false) w.start a m);
  }

  pub reach_begins : (s : ℕ) → s ≡ w.start → s < most_symbols → Reach (set (replicate most_symbols false) s true)
  reach_begins s e h = subst (λ (x : ℕ). Reach (set (replicate most_symbols false) x true)) (sym e) (reach_start (subst (λ (x : ℕ). x < most_symbols) e h))

  record During (begun : List Bool) (s : Turn) : Type 0 where
    right : Reach s.marks
    fewer : s.more ≡ true → unmarked s.marks < unmarked begun
    no_more : unmarked s.marks ≤ unmarked begun

  mark_during : (begun : List Bool) (s : Turn) (x : ℕ) → During begun s → x < most_symbols → Reachable w x → marked s.marks x ≡ false → During begun (turn (set s.marks x true) true)
  mark_during begun s x d low p e = record {
    right = record {
      long = length-set s.marks x true ∙ d.right.long;
      start = mark_kept s.marks x w.start d.right.start inside;
      sound = λ a m. ⊎_elim (λ (f : a ≡ x). subst (Reachable w) (sym f) p) (λ o. d.right.sound a o) (mark_old s.marks x a m);
    };
    fewer = λ f. omega (arith, less, d.no_more);
    no_more = omega (arith, less, d.no_more);
  }
    where
      inside : x < length s.marks
      inside = omega (arith, d.right.long)

      less : unmarked (set s.marks x true) < unmarked s.marks
      less = unmarked_less s.marks x inside e

  marking_during : (begun : List Bool) (l : List ℕ) → Each (λ (x : ℕ). x < most_symbols) l → Each (Reachable w) l → (s : Turn) → During begun s → During begun (marking s l)
  marking_during begun [] low ps s d = subst (During begun) (sym (nothing-marked s)) d
  marking_during begun (x ∷ l) (and b low) (and p ps) s d = either_way (marked s.marks x)
      (λ e. subst (During begun) (sym (marking-there s x l e)) (marking_during begun l low ps s d))
      (λ e. subst (During begun) (sym (marking-new s x l e)) (marking_during begun l low ps (turn (set s.marks x true) true) (mark_during begun s x d b p e)))

  step_during : (begun : List Bool) (r : WrittenRule) → In r w.rules → LowRule r → (s : Turn) → During begun s → During begun (reaching s r)
  step_during begun r i low s d = either_way (marked s.marks r.left)
      (λ e. subst (During begun) (sym (reaching_on s r e))
      (marking_during begun r.right low.right
      (in_each r.right (λ x j. Reachable.by_rule (in_writes w i).writes (d.right.sound r.left e) j)) s d))
      (λ e. subst (During begun) (sym (reaching-rests s r e)) d)

  walk_during : (begun : List Bool) → Each LowRule w.rules → Reach begun → During begun (walk reaching (turn begun false) w.rules)
  walk_during begun low g =
      walk-keeps (During begun) reaching w.rules (λ r i s d. step_during begun r i (each_in low i) s d) (turn begun false)
      (record { right = g; fewer = λ e. absurd (false_true e); no_more = omega arith })

  -- What a walk leaves is right, and where it marked something fewer are unmarked.
  pub reach_on : (begun marks : List Bool) (more : Bool) → Each LowRule w.rules → Reach begun → turn marks more ≡ walk reaching (turn begun false) w.rules → Reach marks
  reach_on begun marks more low g e = subst (λ (s : Turn). Reach s.marks) (sym e) (walk_during begun low g).right

  pub reach_less : (begun marks : List Bool) (more : Bool) → Each LowRule w.rules → Reach begun → turn marks more ≡ walk reaching (turn begun false) w.rules
      → more ≡ true → unmarked marks < unmarked begun
  reach_less begun marks more low g e = subst (λ (s : Turn). s.more ≡ true → unmarked s.marks < unmarked begun) (sym e) (walk_during begun low g).fewer

-- A walk that has marked something says so to its end.
marking-more : (l : List ℕ) (s : Turn) → s.more ≡ true → (marking s l).more ≡ true
marking-more [] s e = ap (λ (t : Turn). t.more) (nothing-marked s) ∙ e
marking-more (x ∷ l) s e = either_way (marked s.marks x)
    (λ f. ap (λ (t : Turn). t.more) (marking-there s x l f) ∙ marking-more l s e)
    (λ f. ap (λ (t : Turn). t.more) (marking-new s x l f) ∙ marking-more l (turn (set s.marks x true) true) refl)

walk_more : (rules : List WrittenRule) (s : Turn) → s.more ≡ true → (walk reaching s rules).more ≡ true
walk_more rules s e = walk-keeps (λ (t : Turn). t.more ≡ true) reaching rules
    (λ r i t h. either_way (marked t.marks r.left)
    (λ f. ap (λ (u : Turn). u.more) (reaching_on t r f) ∙ marking-more r.right t h)
    (λ f. ap (λ (u : Turn). u.more) (reaching-rests t r f) ∙ h))
    s e

-- One that has marked nothing found all marked, and left the marks as they were.
pub record Still (marks : List Bool) (l : List ℕ) : Type 0 where
  pub all : Each (λ (x : ℕ). marked marks x ≡ true) l
  pub same : marking (turn marks false) l ≡ turn marks false

marking_quiet : (marks : List Bool) (l : List ℕ) → (marking (turn marks false) l).more ≡ false → Still marks l
marking_quiet marks [] e = record { all = end; same = nothing-marked (turn marks false) }
marking_quiet marks (x ∷ l) e = either_way (marked marks x)
    (λ f.
    let there-same = marking-there (turn marks false) x l f in
    let q = marking_quiet marks l (sym (ap (λ (t : Turn). t.more) there-same) ∙ e) in
    record { all = and f q.all; same = there-same ∙ q.same })
    (λ f. absurd (true_false
    (sym (marking-more l (turn (set marks x true) true) refl) ∙ sym (ap (λ (t : Turn). t.more) (marking-new (turn marks false) x l f)) ∙ e)))

-- Where the left side of a rule is marked its right side is.
record Passed (marks : List Bool) (r : WrittenRule) : Type 0 where
  right : marked marks r.left ≡ true → Each (λ (x : ℕ). marked marks x ≡ true) r.right

quiet : (marks : List Bool) (rules : List WrittenRule) → (walk reaching (turn marks false) rules).more ≡ false
    → Each (Passed marks) rules × (walk reaching (turn marks false) rules ≡ turn marks false)
unfolding walk
quiet marks [] e = (end, refl)
quiet marks (r ∷ rules) e = either_way (marked marks r.left)
    (λ f.
    let step = reaching_on (turn marks false) r f in
    either_way (marking (turn marks false) r.right).more
    (λ m. absurd (true_false (sym (walk_more rules (marking (turn marks false) r.right) m) ∙ sym (ap (λ (s : Turn). (walk reaching s rules).more) step) ∙ e)))
    (λ m.
    let s = marking_quiet marks r.right m in
    let same : reaching (turn marks false) r ≡ turn marks false = step ∙ s.same in
    let q = quiet marks rules (sym (ap (λ (t : Turn). (walk reaching t rules).more) same) ∙ e) in
    (and (record { right = λ g. s.all }) q.0, ap (λ (t : Turn). walk reaching t rules) same ∙ q.1)))
    (λ f.
    let same = reaching-rests (turn marks false) r f in
    let q = quiet marks rules (sym (ap (λ (t : Turn). (walk reaching t rules).more) same) ∙ e) in
    (and (record { right = λ g. absurd (true_false (sym g ∙ f)) }) q.0, ap (λ (t : Turn). walk reaching t rules) same ∙ q.1))

all-reached : (w : Written) (marks : List Bool) → marked marks w.start ≡ true → Each (Passed marks) w.rules → {a : ℕ} → Reachable w a → marked marks a ≡ true
all-reached w marks s ps Reachable.from_start = s
all-reached w marks s ps (Reachable.by_rule {r = r} {a = a} {x = x} {ω = ω} h p i) =
    let q = each_at w.rules no_written r ps h.there in
    each_in (q.right (subst (λ (y : ℕ). marked marks y ≡ true) (sym h.left) (all-reached w marks s ps p))) (subst (In x) (sym h.right) i)

-- So then exactly what is reachable is marked.
pub reach_exact : (w : Written) (begun marks : List Bool) (more : Bool) → Reach w begun → turn marks more ≡ walk reaching (turn begun false) w.rules → more ≡ false
    → MarksAre (Reachable w) marks
reach_exact w begun marks more g e n =
    let q = quiet begun w.rules (sym (ap (λ (s : Turn). s.more) e) ∙ n) in
    let same : marks ≡ begun = ap (λ (s : Turn). s.marks) (e ∙ q.1) in
    record {
      long = ap length same ∙ g.long;
      right = λ a. record {
        if_yes = λ m. g.sound a (sym (ap (λ (k : List Bool). marked k a) same) ∙ m);
        if_no = λ m p. true_false (sym (all-reached w begun g.start q.0 p) ∙ sym (ap (λ (k : List Bool). marked k a) same) ∙ m);
      };
    }
