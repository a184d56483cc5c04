-- The rules of written rules, listed one after the other.
use Rattle.std.proofs.Common.{◌≡◌, refl, sym, ap, ap₂, subst, ◌∙◌, Bool, ◌&&◌, List, [], ◌∷◌, ◌++◌, ℕ, suc, ◌+◌, ◌-◌, ◌≤◌, ◌<◌, add-one, arith, length, get_or, drop, drop-cons, Result, Ok, Err}
use lib.Seq.{drop-length}
use Rattle.grammar.specs.Rules.{Rule, none}
use Rattle.written.specs.Written.{WrittenRule}
use Rattle.written.specs.Split.{rule, pair, joined, split}
use Rattle.written.specs.Translation.{number, places, new_symbols, all_new, splits}
use Rattle.translation.specs.declared.list.Full.{Full}
use Rattle.translation.specs.inner.Lists.{Lists}
use Rattle.translation.proofs.Words.{lists_on, lists-stops, lists-nothing}
use Rattle.translation.proofs.Placing.{new-first}

-- Listing has come to `now`: whatever lists the rest there lists `total` from the beginning.
pub record Onward (before total now rest : List Rule) : Type 0 where
  pub onward : (r : Result (Unit {0}) Full) (after : List Rule) → Lists now r after rest → Lists before r after total

pub onward_begins : (before total rest : List Rule) → total ≡ rest → Onward before total before rest
onward_begins before total rest e = record { onward = λ r after p. subst (Lists before r after) (sym e) p }

-- Some rules further; and no further, since the list is too long.
pub onward_on : {T : Type 0} {t : T} {before total now after : List Rule} (rest x y : List Rule) → rest ≡ x ++ y → Onward before total now rest → Lists {T = T} {E = Full} now (Ok t) after x
    → Onward before total after y
onward_on {now = now} rest x y e o p = record { onward = λ r w q. o.onward r w (subst (Lists now r w) (sym e) (lists_on x y p q)) }

pub onward_stops : {T : Type 0} {f g : Full} {before total now after : List Rule} (rest x y : List Rule) → rest ≡ x ++ y → Onward before total now rest → Lists {T = T} {E = Full} now (Err f) after x
    → Lists {T = Unit {0}} {E = Full} before (Err g) after total
onward_stops {g = g} {now = now} {after = after} rest x y e o p = o.onward (Err g) after (subst (Lists now (Err g) after) (sym e) (lists-stops x y p))

-- The rules of no place, and of one.
pub split_none : (new : ℕ → ℕ) (empty : ℕ → Bool) (a : ℕ) (l : List ℕ) (next : ℕ) → length l ≡ 0 → split new empty a l next ≡ []
unfolding split
split_none new empty a [] next h = refl
split_none new empty a (x ∷ l) next h = absurd (omega arith)

pub split_one : (new : ℕ → ℕ) (empty : ℕ → Bool) (a : ℕ) (l : List ℕ) (next : ℕ) → length l ≡ 1 → split new empty a l next ≡ rule a (new (get_or l 0 0)) none ∷ []
unfolding split
split_one new empty a [] next h = absurd (omega arith)
split_one new empty a (x ∷ []) next h = refl
split_one new empty a (x ∷ y ∷ l) next h = absurd (omega arith)

pub lists_none : {T E : Type 0} {t : T} (new : ℕ → ℕ) (empty : ℕ → Bool) (a : ℕ) (held : List ℕ) (from : ℕ) (before : List Rule) → length held ≡ 0
    → Lists {T = T} {E = E} before (Ok t) before (split new empty a held from)
lists_none new empty a held from before e = lists-nothing before _ (split_none new empty a held from e)

pub lists_one : {T E : Type 0} {r : Result T E} (new : ℕ → ℕ) (empty : ℕ → Bool) (a : ℕ) (held : List ℕ) (from : ℕ) {y : ℕ} {before after : List Rule} → length held ≡ 1 → y ≡ new (get_or held 0 0)
    → Lists before r after (rule a y none ∷ []) → Lists before r after (split new empty a held from)
lists_one {r = r} new empty a held from {y} {before} {after} e ey p =
    subst (Lists before r after) (sym (split_one new empty a held from e ∙ ap (λ (z : ℕ). rule a z none ∷ []) (sym ey))) p

-- Of two places or more: the first is joined with the others, a place at a time, up to the last.
split-joined : (new : ℕ → ℕ) (empty : ℕ → Bool) (a : ℕ) (l : List ℕ) (next : ℕ) → 1 < length l
    → split new empty a l next ≡ joined new empty a (new (get_or l 0 0)) (empty (get_or l 0 0)) (drop 1 l) next
unfolding split
split-joined new empty a [] next h = absurd (omega arith)
split-joined new empty a (x ∷ []) next h = absurd (omega arith)
split-joined new empty a (x ∷ y ∷ l) next h = refl

module _ (new : ℕ → ℕ) (empty : ℕ → Bool) (a : ℕ) (l : List ℕ) (head : ℕ) (e : Bool) (fresh i : ℕ) where
  joined-next : suc i < length l
      → joined new empty a head e (drop i l) fresh
      ≡ pair fresh head (new (get_or l i 0)) e (empty (get_or l i 0)) ++ joined new empty a fresh (e && empty (get_or l i 0)) (drop (suc i) l) (suc fresh)
  unfolding joined
  joined-next h =
      let behind : drop (suc i) l ≡ get_or l (suc i) 0 ∷ drop (suc (suc i)) l = drop-cons l (suc i) 0 h in
      let low : i < length l = omega arith in
      ap (λ (k : List ℕ). joined new empty a head e k fresh) (drop-cons l i 0 low ∙ ap (λ (k : List ℕ). get_or l i 0 ∷ k) behind)
      ∙ ap (λ (k : List ℕ). pair fresh head (new (get_or l i 0)) e (empty (get_or l i 0)) ++ joined new empty a fresh (e && empty (get_or l i 0)) k (suc fresh)) (sym behind)

  joined-last : suc i ≡ length l → joined new empty a head e (drop i l) fresh ≡ pair a head (new (get_or l i 0)) e (empty (get_or l i 0))
  unfolding joined
  joined-last h =
      let low : i < length l = omega arith in
      ap (λ (k : List ℕ). joined new empty a head e k fresh) (drop-cons l i 0 low ∙ ap (λ (k : List ℕ). get_or l i 0 ∷ k) (ap (λ (k : ℕ). drop k l) h ∙ drop-length l))

-- The places held are being joined, and place `i` is next.
module _ (new : ℕ → ℕ) (empty : ℕ → Bool) (a : ℕ) (held : List ℕ) (from : ℕ) (before : List Rule) where
  pub record Joining (now : List Rule) (head : ℕ) (e : Bool) (fresh i : ℕ) : Type 0 where
    pub some : 1 ≤ i
    pub inside : i < length held
    pub low : head < 65536
    pub next : fresh + 1 ≡ from + i
    pub rest : Onward before (split new empty a held from) now (joined new empty a head e (drop i held) fresh)

  pub joining_begins : {head : ℕ} {e : Bool} → 1 < length held → head ≡ new (get_or held 0 0) → head < 65536 → e ≡ empty (get_or held 0 0) → Joining before head e from 1
  joining_begins two eh low ee = record {
    some = omega arith;
    inside = two;
    low = low;
    next = omega arith;
    rest = onward_begins before _ _
        (split-joined new empty a held from two ∙ ap₂ (λ (y : ℕ) (t : Bool). joined new empty a y t (drop 1 held) from) (sym eh) (sym ee));
  }

  module _ {now : List Rule} {head : ℕ} {e : Bool} {fresh i : ℕ} (j : Joining now head e fresh i) {y : ℕ} {t : Bool} (ey : y ≡ new (get_or held i 0)) (et : t ≡ empty (get_or held i 0)) where
    here-joined : i + 1 < length held
        → joined new empty a head e (drop i held) fresh ≡ pair fresh head y e t ++ joined new empty a fresh (e && t) (drop (i + 1) held) (fresh + 1)
    here-joined h =
        joined-next new empty a held head e fresh i (omega arith)
        ∙ ap₂ (λ (z : ℕ) (s : Bool). pair fresh head z e s ++ joined new empty a fresh (e && s) (drop (suc i) held) (suc fresh)) (sym ey) (sym et)
        ∙ ap₂ (λ (p q : ℕ). pair fresh head y e t ++ joined new empty a fresh (e && t) (drop p held) q) (sym (add-one i)) (sym (add-one fresh))

    -- A place more.
    pub joining_on : {T : Type 0} {u : T} {after : List Rule} {both : Bool} → i + 1 < length held → fresh < 65536 → both ≡ (e && t)
        → Lists {T = T} {E = Full} now (Ok u) after (pair fresh head y e t) → Joining after fresh both (fresh + 1) (i + 1)
    joining_on {after = after} h low eb p = subst (λ (s : Bool). Joining after fresh s (fresh + 1) (i + 1)) (sym eb) (record {
      some = omega arith;
      inside = h;
      low = low;
      next = let q = j.next in omega arith;
      rest = onward_on _ (pair fresh head y e t) (joined new empty a fresh (e && t) (drop (i + 1) held) (fresh + 1)) (here-joined h) j.rest p;
    })

    -- The list is too long.
    pub joining_stops : {T : Type 0} {f g : Full} {after : List Rule} → i + 1 < length held → Lists {T = T} {E = Full} now (Err f) after (pair fresh head y e t)
        → Lists {T = Unit {0}} {E = Full} before (Err g) after (split new empty a held from)
    joining_stops h p = onward_stops _ (pair fresh head y e t) (joined new empty a fresh (e && t) (drop (i + 1) held) (fresh + 1)) (here-joined h) j.rest p

    -- The last place.
    pub joining_ends : {r : Result (Unit {0}) Full} {after : List Rule} → length held ≤ i + 1 → Lists now r after (pair a head y e t) → Lists before r after (split new empty a held from)
    joining_ends {r = r} {after} h p =
        let last : suc i ≡ length held = let k = j.inside in omega arith in
        j.rest.onward r after (subst (Lists now r after) (sym (joined-last new empty a held head e fresh i last ∙ ap₂ (λ (z : ℕ) (s : Bool). pair a head z e s) (sym ey) (sym et))) p)

-- Some of the written rules are to come.
module _ (keep empty : ℕ → Bool) (all : List WrittenRule) (from : ℕ) (before : List Rule) where
  pub record Parting (now : List Rule) (rest : List WrittenRule) (fresh : ℕ) : Type 0 where
    pub low : fresh + all_new keep rest ≤ 512
    pub listed : Onward before (splits keep empty all from) now (splits keep empty rest fresh)

  module _ {now : List Rule} {rest more : List WrittenRule} {r : WrittenRule} {fresh : ℕ} (p : Parting now rest fresh) (e : rest ≡ r ∷ more) {held : List ℕ} (el : held ≡ places keep r.right) where
    new-here : all_new keep rest ≡ length held - 2 + all_new keep more
    new-here = let n = ap (all_new keep) e ∙ new-first keep r more in let c = ap length el in omega arith

    splits-here : {a : ℕ} → a ≡ number keep r.left
        → splits keep empty rest fresh ≡ split (number keep) empty a held fresh ++ splits keep empty more (fresh + (length held - 2))
    unfolding splits
    splits-here {a} ea =
        let fewer : new_symbols (places keep r.right) ≡ length held - 2 = sym (ap (λ (l : List ℕ). length l - 2) el) in
        ap (λ (l : List WrittenRule). splits keep empty l fresh) e
        ∙ ap₂ (λ (b : ℕ) (l : List ℕ). split (number keep) empty b l fresh ++ splits keep empty more (fresh + new_symbols (places keep r.right))) (sym ea) (sym el)
        ∙ ap (λ (j : ℕ). split (number keep) empty a held fresh ++ splits keep empty more (fresh + j)) fewer

    -- A rule more.
    pub parting_on : {T : Type 0} {u : T} {after : List Rule} {a s : ℕ} → a ≡ number keep r.left → s ≡ length held - 2
        → Lists {T = T} {E = Full} now (Ok u) after (split (number keep) empty a held fresh) → Parting after more (fresh + s)
    parting_on {after = after} {a} {s} ea es q = subst (λ (j : ℕ). Parting after more (fresh + j)) (sym es) (record {
      low = let m = new-here in let low = p.low in omega arith;
      listed = onward_on _ (split (number keep) empty a held fresh) (splits keep empty more (fresh + (length held - 2))) (splits-here ea) p.listed q;
    })

    -- The list is too long.
    pub parting_stops : {T : Type 0} {f g : Full} {after : List Rule} {a : ℕ} → a ≡ number keep r.left → Lists {T = T} {E = Full} now (Err f) after (split (number keep) empty a held fresh)
        → Lists {T = Unit {0}} {E = Full} before (Err g) after (splits keep empty all from)
    parting_stops {a = a} ea q =
        onward_stops _ (split (number keep) empty a held fresh) (splits keep empty more (fresh + (length held - 2))) (splits-here ea) p.listed q

  -- The end: the list has all rules.
  pub parting-ends : {now : List Rule} {rest : List WrittenRule} {fresh : ℕ} → Parting now rest fresh → rest ≡ [] → Lists {T = Unit {0}} {E = Full} before (Ok tt) now (splits keep empty all from)
  unfolding splits
  parting-ends {now} {rest} {fresh} p e = p.listed.onward (Ok tt) now (lists-nothing now _ (ap (λ (l : List WrittenRule). splits keep empty l fresh) e))
