-- Left sides: which are left, which are named, and their rules put level after level.
use Rattle.std.proofs.Common.{◌≡◌, refl, sym, ap, ap₂, subst, ◌∙◌, Bool, true, false, ◌&&◌, ◌||◌, not, List, [], ◌∷◌, ◌++◌, append_assoc, ℕ, suc, ◌+◌, ◌-◌, ◌≤◌, ◌<◌, add-one, arith, length, set, replicate, length-set, get_or-set_same, get_or-set_other, eqb, eq-eqb, ne_eqb}
use native.Mathlib.Decide.{ℕ_discrete}
use lib.ListN.{length-replicate}
use lib.Seq.{sets}
use Rattle.laws.specs.Records.{flat}
use Rattle.laws.proofs.Tests.{either_way}
use Rattle.laws.proofs.Records.{flat_append}
use Rattle.laws.proofs.Decides.{true_false}
use Rattle.grammar.specs.Rules.{Rule, none}
use Rattle.grammar.specs.Accepted.{max_symbols}
use Rattle.grammar.specs.File.{rule_bytes}
use Rattle.grammar.specs.inner.Decoded.{rules_behind, rules_in}
use Rattle.written.specs.Lists.{In}
use Rattle.written.specs.Split.{rule, given}
use Rattle.written.specs.Order.{has, named, passing, ordered}
use Rattle.written.specs.Translation.{rules_of, blocks, up_from}
use Rattle.written.specs.Bytes.{bytes_of_rule}
use Rattle.written.proofs.Filing.{rule-long}
use Rattle.written.proofs.Listing.{or_first, or_second, rules_parts}
use Rattle.written.proofs.Ordering.{in_passing, passing_in}
use Rattle.written.proofs.Leading.{has_there, there_has, up_in, in_up}
use Rattle.translation.specs.inner.Marks.{marked, OnlyWithin}
use Rattle.translation.specs.inner.Lists.{rule_in}
use Rattle.translation.specs.inner.Sides.{NamedBy, KeptNamed, left_within, level_of}
use Rattle.translation.specs.inner.Puts.{Puts}
use Rattle.translation.proofs.Marked.{none_marked}
use Rattle.translation.proofs.Words.{behind-next}
use Rattle.translation.proofs.Putting.{Putting, putting_begins, putting_same, putting_on, putting_room, putting_ends}

-- Of what is left the named are kept, up to `a`.
pub record Keeping (before named left : List Bool) (a : ℕ) : Type 0 where
  pub first : length before ≡ max_symbols
  pub long : length left ≡ max_symbols
  pub done : (b : ℕ) → b < a → marked left b ≡ (marked before b && marked named b)
  pub next : (b : ℕ) → a ≤ b → marked left b ≡ marked before b

and_false : (a b : Bool) → b ≡ false → false ≡ (a && b)
and_false true b e = sym e
and_false false b e = refl

-- The rules before `r` have marked what they name, and the rules from `r` on name the rest.
pub record Naming (words : List ℕ) (count : ℕ) (left marks : List Bool) (r : ℕ) : Type 0 where
  pub few : r ≤ count
  pub long : length marks ≡ max_symbols
  pub right : (l : List ℕ) → ((x : ℕ) → has l x ≡ marked left x) → (b : ℕ) → b < max_symbols
      → (marked marks b || named (rules_behind words r (count - r)) l b) ≡ named (rules_in words count) l b

pub naming_begins : (words : List ℕ) (count : ℕ) (left : List Bool) → Naming words count left (replicate max_symbols false) 0
naming_begins words count left = record {
  few = omega arith;
  long = length-replicate {A = Bool} max_symbols false;
  right = λ l h b k.
      let e : count - 0 ≡ count = omega arith in
      ap₂ (λ (t : Bool) (n : ℕ). t || named (rules_behind words 0 n) l b) (none_marked max_symbols b) e;
}

module _ (words : List ℕ) (count : ℕ) (left marks : List Bool) (r : ℕ) (n : Naming words count left marks r) (more : r < count) where
  abbrev rest : List Rule
  rest = rules_behind words (r + 1) (count - (r + 1))

  abbrev this : (l : List ℕ) (b : ℕ) → Bool
  this l b = eqb (rule_in words r).second none && (eqb (rule_in words r).first b && has l (rule_in words r).left)

  here-named : (l : List ℕ) → ((x : ℕ) → has l x ≡ marked left x) → (b : ℕ) → b < max_symbols → (marked marks b || (this l b || named rest l b)) ≡ named (rules_in words count) l b
  unfolding named
  here-named l h b k =
      let step : count - r - 1 ≡ count - (r + 1) = omega arith in
      sym (ap (λ (q : List Rule). marked marks b || named q l b) (behind-next words r (count - r) (omega arith) ∙ ap (λ (j : ℕ). rule_in words r ∷ rules_behind words (r + 1) j) step)) ∙ n.right l h b k

  -- A rule that names nothing.
  naming_not : ((l : List ℕ) → ((x : ℕ) → has l x ≡ marked left x) → (b : ℕ) → this l b ≡ false) → Naming words count left marks (r + 1)
  naming_not f = record {
    few = omega arith;
    long = n.long;
    right = λ l h b k. sym (ap (λ (t : Bool). marked marks b || (t || named rest l b)) (f l h b)) ∙ here-named l h b k;
  }

  pub naming_two : (x : ℕ) → x ≡ (rule_in words r).second → (x ≡ none → ⊥) → Naming words count left marks (r + 1)
  naming_two x e d = naming_not (λ l h b. ap (λ (t : Bool). t && (eqb (rule_in words r).first b && has l (rule_in words r).left)) (ap (λ (y : ℕ). eqb y none) (sym e) ∙ ne_eqb x none d))

  pub naming_gone : (a : ℕ) {answer : Bool} → a ≡ (rule_in words r).left → answer ≡ marked left a → answer ≡ false → Naming words count left marks (r + 1)
  naming_gone a e is f = naming_not (λ l h b.
      let off : has l (rule_in words r).left ≡ false = h (rule_in words r).left ∙ ap (marked left) (sym e) ∙ sym is ∙ f in
      sym (and_false (eqb (rule_in words r).second none) (eqb (rule_in words r).first b && has l (rule_in words r).left) (sym (and_false (eqb (rule_in words r).first b) (has l (rule_in words r).left) off))))

  -- A rule of a left side that is left, with one symbol: that one is marked.
  pub naming_marks : (x a y : ℕ) {answer : Bool} {after : List Bool} → x ≡ (rule_in words r).second → x ≡ none → a ≡ (rule_in words r).left → answer ≡ marked left a → answer ≡ true
      → y ≡ (rule_in words r).first → after ≡ set marks y true → Naming words count left after (r + 1)
  naming_marks x a y {answer} {after} ex en ea is t ey es = record {
    few = omega arith;
    long = ap length es ∙ length-set marks y true ∙ n.long;
    right = λ l h b k. ap (λ (m : List Bool). marked m b || named rest l b) es ∙ either b l h k;
  }
    where
      is_this : (l : List ℕ) → ((x : ℕ) → has l x ≡ marked left x) → (b : ℕ) → this l b ≡ (eqb y b && true)
      is_this l h b =
          let on : has l (rule_in words r).left ≡ true = h (rule_in words r).left ∙ ap (marked left) (sym ea) ∙ sym is ∙ t in
          ap₂ ◌&&◌ (ap (λ (z : ℕ). eqb z none) (sym ex) ∙ eq-eqb x none en) (ap₂ ◌&&◌ (ap (λ (z : ℕ). eqb z b) (sym ey)) on)

      either : (b : ℕ) (l : List ℕ) → ((x : ℕ) → has l x ≡ marked left x) → b < max_symbols → (marked (set marks y true) b || named rest l b) ≡ named (rules_in words count) l b
      either b l h k = elim (ℕ_discrete y b) [
        | yes e ↦
            let inside : y < length marks = omega (arith, n.long) in
            or_first (named rest l b) (ap (marked (set marks y true)) (sym e) ∙ get_or-set_same marks y true false inside)
            ∙ sym (or_second (marked marks b) (or_first (named rest l b) (is_this l h b ∙ ap (λ (s : Bool). s && true) (eq-eqb y b e))))
            ∙ here-named l h b k
        | no d ↦
            ap (λ (s : Bool). s || named rest l b) (get_or-set_other marks y b true false (λ (s : b ≡ y). d (sym s)))
            ∙ sym (ap (λ (s : Bool). marked marks b || (s || named rest l b)) (is_this l h b ∙ ap (λ (s : Bool). s && true) (ne_eqb y b d)))
            ∙ here-named l h b k
      ]

pub naming_ends : (words : List ℕ) (count : ℕ) (left marks : List Bool) (r : ℕ) → Naming words count left marks r → count ≤ r → NamedBy (rules_in words count) left marks
unfolding named rules_behind
naming_ends words count left marks r n h = record {
  long = n.long;
  right = λ l f b k.
      let e : count - r ≡ 0 = omega arith in
      sym (or_none (marked marks b)) ∙ sym (ap (λ (j : ℕ). marked marks b || named (rules_behind words r j) l b) e) ∙ n.right l f b k;
}
  where
    or_none : (t : Bool) → (t || false) ≡ t
    or_none true = refl
    or_none false = refl

-- The bytes of rules behind rules, and of blocks behind blocks.
pub bytes-append : (a b : List Rule) → flat bytes_of_rule (a ++ b) ≡ flat bytes_of_rule a ++ flat bytes_of_rule b
bytes-append a b = flat_append bytes_of_rule rule_bytes rule-long a b

pub blocks-append : (rules : List Rule) (a b : List ℕ) → blocks rules (a ++ b) ≡ blocks rules a ++ blocks rules b
unfolding blocks
blocks-append rules [] b = refl
blocks-append rules (x ∷ a) b = ap (λ (l : List Rule). rules_of rules x ++ l) (blocks-append rules a b) ∙ sym (append_assoc (rules_of rules x) (blocks rules a) (blocks rules b))

-- The rules of one left side are being put, and those from `r` on are to come.
module _ (words : List ℕ) (count a : ℕ) (before : List ℕ) (at : ℕ) where
  abbrev those : ℕ → List ℕ
  those r = flat bytes_of_rule (rules_of (rules_behind words r (count - r)) a)

  pub record Side (now : List ℕ) (here r : ℕ) : Type 0 where
    pub few : r ≤ count
    pub putting : Putting before at (flat bytes_of_rule (rules_of (rules_in words count) a)) now here (those r)

  next-rules : (r : ℕ) → r < count → rules_behind words r (count - r) ≡ rule_in words r ∷ rules_behind words (r + 1) (count - (r + 1))
  next-rules r h =
      let step : count - r - 1 ≡ count - (r + 1) = omega arith in
      behind-next words r (count - r) (omega arith) ∙ ap (λ (j : ℕ). rule_in words r ∷ rules_behind words (r + 1) j) step

  -- A rule of another left side.
  pub side_other : (now : List ℕ) (here r x : ℕ) → Side now here r → r < count → x ≡ (rule_in words r).left → (x ≡ a → ⊥) → Side now here (r + 1)
  unfolding rules_of given
  side_other now here r x s h e d = record {
    few = omega arith;
    putting = putting_same _ _
        (ap (λ (l : List Rule). flat bytes_of_rule (rules_of l a)) (next-rules r h)
        ∙ ap (λ (t : Bool). flat bytes_of_rule (given t (rule_in words r ∷ []) ++ rules_of (rules_behind words (r + 1) (count - (r + 1))) a)) (ap (λ (y : ℕ). eqb y a) (sym e) ∙ ne_eqb x a d))
        s.putting;
  }

  -- One of this.
  module _ (now : List ℕ) (here r x y z : ℕ) (s : Side now here r) (h : r < count) (ex : x ≡ (rule_in words r).left) (is : x ≡ a) (ey : y ≡ (rule_in words r).first) (ez : z ≡ (rule_in words r).second) where
    those_next : those r ≡ bytes_of_rule (rule a y z) ++ those (r + 1)
    unfolding rules_of given flat
    those_next =
        ap (λ (l : List Rule). flat bytes_of_rule (rules_of l a)) (next-rules r h)
        ∙ ap (λ (t : Bool). flat bytes_of_rule (given t (rule_in words r ∷ []) ++ rules_of (rules_behind words (r + 1) (count - (r + 1))) a)) (ap (λ (y : ℕ). eqb y a) (sym ex) ∙ eq-eqb x a is)
        ∙ ap (λ (q : Rule). bytes_of_rule q ++ those (r + 1)) (rules_parts (sym ex ∙ is) (sym ey) (sym ez))

    pub side_room : here + rule_bytes ≤ length now
    side_room = let room = putting_room _ (bytes_of_rule (rule a y z)) (those (r + 1)) those_next s.putting in let l = rule-long (rule a y z) in omega arith

    pub side_on : {after : List ℕ} → (Puts now here (bytes_of_rule (rule a y z)) after (here + rule_bytes)) → Side after (here + rule_bytes) (r + 1)
    side_on p = record { few = omega arith; putting = putting_on _ (bytes_of_rule (rule a y z)) (those (r + 1)) those_next s.putting p }

  pub side_ends : (now : List ℕ) (here r : ℕ) → Side now here r → count ≤ r → Puts before at (flat bytes_of_rule (rules_of (rules_in words count) a)) now here
  unfolding rules_of rules_behind flat
  side_ends now here r s h =
      let e : count - r ≡ 0 = omega arith in
      putting_ends _ (ap (λ (k : ℕ). flat bytes_of_rule (rules_of (rules_behind words r k) a)) e) s.putting

-- The numbers from `a` up to `to`.
up_next : (a to : ℕ) → a < to → up_from a (to - a) ≡ a ∷ up_from (a + 1) (to - (a + 1))
unfolding up_from
up_next a to h =
    let e : to - a ≡ suc (to - (a + 1)) = omega arith in
    ap (up_from a) e ∙ ap (λ (k : ℕ). a ∷ up_from k (to - (a + 1))) (sym (add-one a))

up_none : (a to : ℕ) → to ≤ a → up_from a (to - a) ≡ []
unfolding up_from
up_none a to h = let e : to - a ≡ 0 = omega arith in ap (up_from a) e

-- The first of a list passes, or not.
pub passing-yes : (test : ℕ → Bool) (x : ℕ) (l : List ℕ) → test x ≡ true → passing test (x ∷ l) ≡ x ∷ passing test l
unfolding passing
passing-yes test x l e = rw (passing, e) refl

pub passing_no : (test : ℕ → Bool) (x : ℕ) (l : List ℕ) → test x ≡ false → passing test (x ∷ l) ≡ passing test l
unfolding passing
passing_no test x l e = rw (passing, e) refl

passing_none : (test : ℕ → Bool) → passing test [] ≡ []
unfolding passing
passing_none test = refl

-- The level's left sides from `a` on are to come.
module _ (rules : List Rule) (left named : List Bool) (to : ℕ) (before : List ℕ) (at : ℕ) (total : List ℕ) where
  abbrev those_sides : ℕ → List ℕ
  those_sides a = flat bytes_of_rule (blocks rules (level_of left named a to))

  pub record Level (now : List ℕ) (here a : ℕ) : Type 0 where
    pub putting : Putting before at total now here (those_sides a)

  left-next : (a : ℕ) → a < to → marked left a ≡ true → left_within left a to ≡ a ∷ left_within left (a + 1) to
  left-next a h e = ap (passing (marked left)) (up_next a to h) ∙ passing-yes (marked left) a (up_from (a + 1) (to - (a + 1))) e

  left_gone : (a : ℕ) → a < to → marked left a ≡ false → left_within left a to ≡ left_within left (a + 1) to
  left_gone a h e = ap (passing (marked left)) (up_next a to h) ∙ passing_no (marked left) a (up_from (a + 1) (to - (a + 1))) e

  abbrev free : ℕ → Bool
  free b = not (marked named b)

  module _ (now : List ℕ) (here a : ℕ) (s : Level now here a) (h : a < to) {on : Bool} (eo : on ≡ marked left a) where
    pub level_gone : on ≡ false → Level now here (a + 1)
    level_gone e = record { putting = putting_same _ _ (ap (λ (l : List ℕ). flat bytes_of_rule (blocks rules (passing free l))) (left_gone a h (sym eo ∙ e))) s.putting }

    module _ (e : on ≡ true) {some : Bool} (es : some ≡ marked named a) where
      pub level_named : some ≡ true → Level now here (a + 1)
      level_named t = record {
        putting = putting_same _ _
            (ap (λ (l : List ℕ). flat bytes_of_rule (blocks rules l))
            (ap (passing free) (left-next a h (sym eo ∙ e)) ∙ passing_no free a (left_within left (a + 1) to) (ap not (sym es ∙ t)))) s.putting;
      }

      these_next : some ≡ false → those_sides a ≡ flat bytes_of_rule (rules_of rules a) ++ those_sides (a + 1)
      unfolding blocks
      these_next t =
          ap (λ (l : List ℕ). flat bytes_of_rule (blocks rules l)) (ap (passing free) (left-next a h (sym eo ∙ e)) ∙ passing-yes free a (left_within left (a + 1) to) (ap not (sym es ∙ t)))
          ∙ bytes-append (rules_of rules a) (blocks rules (level_of left named (a + 1) to))

      pub level_room : some ≡ false → here + length (flat bytes_of_rule (rules_of rules a)) ≤ length now
      level_room t = putting_room _ (flat bytes_of_rule (rules_of rules a)) (those_sides (a + 1)) (these_next t) s.putting

      pub level_on : {after : List ℕ} {to' : ℕ} → some ≡ false → Puts now here (flat bytes_of_rule (rules_of rules a)) after to' → Level after to' (a + 1)
      level_on t p = record { putting = putting_on _ (flat bytes_of_rule (rules_of rules a)) (those_sides (a + 1)) (these_next t) s.putting p }

  pub level_ends : (now : List ℕ) (here a : ℕ) → Level now here a → to ≤ a → Puts before at total now here
  unfolding blocks flat
  level_ends now here a s h =
      putting_ends _ (ap (λ (l : List ℕ). flat bytes_of_rule (blocks rules l))
      (ap (passing free) (ap (passing (marked left)) (up_none a to h) ∙ passing_none (marked left)) ∙ passing_none free)) s.putting

-- Tests that agree on a list; a test behind a test; and a test that all pass.
passing_alike : (p q : ℕ → Bool) (l : List ℕ) → ((x : ℕ) → In x l → p x ≡ q x) → passing p l ≡ passing q l
passing_alike p q [] f = passing_none p ∙ sym (passing_none q)
passing_alike p q (x ∷ l) f =
    let rest : passing p l ≡ passing q l = passing_alike p q l (λ y i. f y (In.there i)) in
    either_way (q x)
    (λ e. passing-yes p x l (f x In.here ∙ e) ∙ ap (λ (k : List ℕ). x ∷ k) rest ∙ sym (passing-yes q x l e))
    (λ e. passing_no p x l (f x In.here ∙ e) ∙ rest ∙ sym (passing_no q x l e))

passing-both : (p q : ℕ → Bool) (l : List ℕ) → passing (λ (x : ℕ). p x && q x) l ≡ passing q (passing p l)
passing-both p q [] = passing_none (λ (x : ℕ). p x && q x) ∙ sym (ap (passing q) (passing_none p) ∙ passing_none q)
passing-both p q (x ∷ l) =
    let rest : passing (λ (y : ℕ). p y && q y) l ≡ passing q (passing p l) = passing-both p q l in
    either_way (p x)
    (λ e. either_way (q x)
    (λ k. passing-yes (λ (y : ℕ). p y && q y) x l (ap₂ ◌&&◌ e k) ∙ ap (λ (m : List ℕ). x ∷ m) rest ∙ sym (ap (passing q) (passing-yes p x l e) ∙ passing-yes q x (passing p l) k))
    (λ k. passing_no (λ (y : ℕ). p y && q y) x l (ap₂ ◌&&◌ e k) ∙ rest ∙ sym (ap (passing q) (passing-yes p x l e) ∙ passing_no q x (passing p l) k)))
    (λ e. passing_no (λ (y : ℕ). p y && q y) x l (ap (λ (t : Bool). t && q x) e) ∙ rest ∙ sym (ap (passing q) (passing_no p x l e)))

passing-all : (p : ℕ → Bool) (l : List ℕ) → ((x : ℕ) → In x l → p x ≡ true) → passing p l ≡ l
passing-all p [] f = passing_none p
passing-all p (x ∷ l) f = passing-yes p x l (f x In.here) ∙ ap (λ (k : List ℕ). x ∷ k) (passing-all p l (λ y i. f y (In.there i)))

-- Levels are being put: `rounds` of them are to come.
module _ (words : List ℕ) (count from to : ℕ) (before : List ℕ) (at : ℕ) (total : List ℕ) where
  abbrev list : List Rule
  list = rules_in words count

  pub record Levels (now : List ℕ) (left : List Bool) (here rounds : ℕ) : Type 0 where
    pub long : length left ≡ max_symbols
    pub only : (b : ℕ) → marked left b ≡ true → (from ≤ b) × (b < to)
    pub putting : Putting before at total now here (flat bytes_of_rule (blocks list (ordered rounds list (left_within left from to))))

  module _ (now : List ℕ) (left : List Bool) (here rounds : ℕ) (s : Levels now left here rounds) (more : 0 < rounds) (low : to ≤ max_symbols) (marks : List Bool) (n : NamedBy (rules_in words count) left marks) where
    -- The left sides that are left are those that the marks say.
    left_is : (x : ℕ) → has (left_within left from to) x ≡ marked left x
    left_is x = either_way (marked left x)
        (λ e. let w = s.only x e in
        there_has (in_passing (marked left) (up_in from (to - from) x w.0 (inside x w.0 w.1)) e) ∙ sym e)
        (λ e. either_way (has (left_within left from to) x)
        (λ h. absurd (true_false (sym (passing_in (marked left) (up_from from (to - from)) (has_there (left_within left from to) x h)).passes ∙ e)))
        (λ h. h ∙ sym e))
      where
        inside : (x : ℕ) → from ≤ x → x < to → x < from + (to - from)
        inside x l h = omega arith

    named_is : (x : ℕ) → In x (left_within left from to) → marked marks x ≡ named list (left_within left from to) x
    named_is x i =
        let w = s.only x (passing_in (marked left) (up_from from (to - from)) i).passes in
        n.right (left_within left from to) left_is x (omega (arith, w.1))

    round : ordered rounds list (left_within left from to)
        ≡ level_of left marks from to ++ ordered (rounds - 1) list (passing (marked marks) (left_within left from to))
    unfolding ordered
    round =
        let e : rounds ≡ suc (rounds - 1) = omega arith in
        ap (λ (k : ℕ). ordered k list (left_within left from to)) e
        ∙ ap₂ (λ (a b : List ℕ). a ++ ordered (rounds - 1) list b)
        (sym (passing_alike (λ b. not (marked marks b)) (λ b. not (named list (left_within left from to) b)) (left_within left from to) (λ x i. ap not (named_is x i))))
        (sym (passing_alike (marked marks) (named list (left_within left from to)) (left_within left from to) named_is))

    abbrev behind : List ℕ
    behind = flat bytes_of_rule (blocks list (ordered (rounds - 1) list (passing (marked marks) (left_within left from to))))

    parts : flat bytes_of_rule (blocks list (ordered rounds list (left_within left from to))) ≡ flat bytes_of_rule (blocks list (level_of left marks from to)) ++ behind
    parts =
        ap (λ (l : List ℕ). flat bytes_of_rule (blocks list l)) round
        ∙ ap (flat bytes_of_rule) (blocks-append list (level_of left marks from to) (ordered (rounds - 1) list (passing (marked marks) (left_within left from to))))
        ∙ bytes-append (blocks list (level_of left marks from to)) (blocks list (ordered (rounds - 1) list (passing (marked marks) (left_within left from to))))

    pub levels_room : here + length (flat bytes_of_rule (blocks list (level_of left marks from to))) ≤ length now
    levels_room = putting_room _ (flat bytes_of_rule (blocks list (level_of left marks from to))) behind parts s.putting

    -- A level more.
    pub levels_on : {after : List ℕ} {there next : ℕ} {rest : List Bool} → rounds - 1 ≡ next → Puts now here (flat bytes_of_rule (blocks list (level_of left marks from to))) after there
        → KeptNamed left marks rest → Levels after rest there next
    levels_on {after} {there} {next} {rest} en p k = subst (Levels after rest there) en (record {
      long = k.long;
      only = λ b e. s.only b (first_true (marked left b) (marked marks b) (sym (k.right b) ∙ e));
      putting = putting_same _ _ (ap (λ (l : List ℕ). flat bytes_of_rule (blocks list (ordered (rounds - 1) list l))) same)
          (putting_on _ (flat bytes_of_rule (blocks list (level_of left marks from to))) behind parts s.putting p);
    })
      where
        first_true : (a b : Bool) → (a && b) ≡ true → a ≡ true
        first_true true b e = refl
        first_true false b e = e

        same : passing (marked marks) (left_within left from to) ≡ left_within rest from to
        same =
            sym (passing-both (marked left) (marked marks) (up_from from (to - from)))
            ∙ sym (passing_alike (marked rest) (λ (x : ℕ). marked left x && marked marks x) (up_from from (to - from)) (λ x i. k.right x))

  pub levels_begin : (left : List Bool) (rounds : ℕ) → from ≤ to → length left ≡ max_symbols → OnlyWithin from to left → total ≡ flat bytes_of_rule (blocks list (ordered rounds list (up_from from (to - from))))
      → at + length total ≤ length before → Levels before left at rounds
  levels_begin left rounds h long o e r = record {
    long = long;
    only = o.only;
    putting = putting_begins before at total _ (e ∙ ap (λ (l : List ℕ). flat bytes_of_rule (blocks list (ordered rounds list l)))
        (sym (passing-all (marked left) (up_from from (to - from)) (λ x i. let w = in_up from (to - from) i in o.all x w.0 (below x w.1))))) r;
  }
    where
      below : (x : ℕ) → x < from + (to - from) → x < to
      below x l = omega arith

  pub levels_end : (now : List ℕ) (left : List Bool) (here rounds : ℕ) → Levels now left here rounds → rounds ≤ 0 → now ≡ sets before at total
  unfolding blocks flat ordered
  levels_end now left here rounds s h =
      let e : rounds ≡ 0 = omega arith in
      (putting_ends _ (ap (λ (k : ℕ). flat bytes_of_rule (blocks list (ordered k list (left_within left from to)))) e) s.putting).stored
