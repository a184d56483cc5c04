-- A walk over units that marks the heads of the nodes that it meets.
use mathlib.Core.Path.{◌≡◌, sym, ap, subst, ◌∙◌}
use mathlib.Core.Logic.{◌⊎◌, inl, inr}
use mathlib.Core.Bool.{Bool, true, false}
use mathlib.Core.List.{List}
use Prim.Native.Nat.{ℕ, ◌+◌, ◌/◌, ◌≤◌, ◌<◌}
use native.Mathlib.Omega.{arith}
use lib.ListN.{length, get_or, length-set}
use lib.Dec.{ltb}
use Rattle.laws.specs.Bits.{word_bits, Holds, holds, adding}
use Rattle.laws.specs.Decides.{Decides}
use Rattle.laws.proofs.Bits.{holds_true, holds_false, zeros_hold, adding-new, adding-kept, adding_one}
use Rattle.laws.proofs.Decides.{says_yes_lem, says_no}
use Rattle.node.specs.Choice.{pick}
use Rattle.node.specs.Answers.{answer, done, node, end}
use Rattle.node.specs.Writing.{usable, usable_units}
use Rattle.node.specs.Reading.{filler, head_from, read_here, read_units, read_at}
use Rattle.node.specs.declared.Node.{Node}
use Rattle.node.proofs.Exact.{read_onward}
use Rattle.node.proofs.Fillers.{head_past, head-here, head_skip}
use Rattle.parse.specs.Heads.{ToEnd, ends, on, Meets, here, later}
use Rattle.parse.specs.inner.Parts.{head_words, Unmarked, HeadsMarked}
use Rattle.parse.proofs.Heads.{usable-all, read_past, past_read}

-- Reading from two positions with one head is the same,
read_alike : (s : List ℕ) (p q : ℕ) → head_from s p ≡ head_from s q → read_units s p ≡ read_units s q
unfolding read_units
read_alike s p q at = ap (λ h. pick (ltb h (length s)) (read_here s h) (answer done end)) at

-- so one reads to the end where the other does,
to_end_alike : {units : List ℕ} {p q : ℕ} → head_from (usable units) p ≡ head_from (usable units) q → ToEnd units p → ToEnd units q
to_end_alike {units} {p} {q} at (ends e) = ends (sym (read_alike (usable units) p q at) ∙ e)
to_end_alike {units} {p} {q} at (on e rest) = on (sym (read_alike (usable units) p q at) ∙ e) rest

-- and meets what the other does.
meets_alike : {units : List ℕ} {h p q : ℕ} → head_from (usable units) p ≡ head_from (usable units) q → Meets units h p → Meets units h q
meets_alike {units} {h} {p} {q} at (here e is) = here (sym (read_alike (usable units) p q at) ∙ e) (sym at ∙ is)
meets_alike {units} {h} {p} {q} at (later e m) = later (sym (read_alike (usable units) p q at) ∙ e) m

-- Where a node is read, reading goes on behind it,
pub end-behind : {units : List ℕ} {p b : ℕ} {n : Node} → read_at units p ≡ answer done (node n b) → ToEnd units p → ToEnd units b
end-behind e (ends f) = let z : ◌≡◌ {A = ℕ} 0 1 = cc in absurd (omega arith)
end-behind {units} {p} {b} e (on {q = q} f rest) = let same : q ≡ b = cc in subst (ToEnd units) same rest

-- and what is met is its head or is met behind it.
pub meets_behind : {units : List ℕ} {h p b : ℕ} {n : Node} → read_at units p ≡ answer done (node n b) → Meets units h p
    → (head_from (usable units) p ≡ h) ⊎ Meets units h b
meets_behind e (here f is) = inl is
meets_behind {units} {h} {p} {b} e (later {q = q} f m) = let same : q ≡ b = cc in inr (subst (Meets units h) same m)

-- Where no node is read none is met.
pub none_met : {units : List ℕ} {h p : ℕ} → ((n : Node) (b : ℕ) → read_at units p ≡ answer done (node n b) → ⊥) → Meets units h p → ⊥
none_met no_Node (here {q = q} {n = n} e is) = no_Node n q e
none_met no_Node (later {q = q} {n = n} e m) = no_Node n q e

-- A test of a mark tells whether the handle is marked that it was made of.
pub mark_told : (heads : List ℕ) (h handle : ℕ) {r : Bool} → r ≡ holds heads h → h ≡ handle → Decides r (Holds heads handle)
mark_told heads h handle told is = record {
  if_yes = λ e. subst (Holds heads) is (holds_true heads h (sym told ∙ e));
  if_no = λ e held. holds_false heads h (sym told ∙ e) (subst (Holds heads) (sym is) held);
}

-- The walk has come from 0 to `at`: what was met before is marked, and what is left to read is left to mark.
pub record Marking (units : List ℕ) (at : ℕ) (heads : List ℕ) : Type 0 where
  pub long : length heads ≡ head_words
  pub inside : at ≤ length units
  pub ends-here : ToEnd units at → ToEnd units 0
  pub ends_there : ToEnd units 0 → ToEnd units at
  pub met : (h : ℕ) → Holds heads h → Meets units h 0
  pub meets : (h : ℕ) → Meets units h at → Meets units h 0
  pub marked : (h : ℕ) → Meets units h 0 → Holds heads h ⊎ Meets units h at

-- What a walk tells, and the heads that it marked.
pub record Walked (units : List ℕ) (heads : List ℕ) (r : Bool) : Type 0 where
  pub tells : Decides r (ToEnd units 0)
  pub marks : HeadsMarked units heads

module _ (units : List ℕ) (small : length units ≤ usable_units) where
  pub marking-start : (heads : List ℕ) → Unmarked heads → Marking units 0 heads
  marking-start heads none = record {
    long = none.long;
    inside = omega arith;
    ends-here = λ e. e;
    ends_there = λ e. e;
    met = λ h held. absurd (zeros_hold heads h none.zero held);
    meets = λ h m. m;
    marked = λ h m. inr m;
  }

  module _ (at : ℕ) (heads : List ℕ) (so_far : Marking units at heads) where
    -- A filler is passed over.
    pub marking-filler : at < length units → get_or units at 0 ≡ filler → Marking units (at + 1) heads
    marking-filler low is =
        let same : head_from (usable units) at ≡ head_from (usable units) (at + 1) =
        subst (λ s. head_from s at ≡ head_from s (at + 1)) (sym (usable-all units small)) (head_skip units at low is) in
        record {
          long = so_far.long;
          inside = omega arith;
          ends-here = λ e. so_far.ends-here (to_end_alike (sym same) e);
          ends_there = λ e. to_end_alike same (so_far.ends_there e);
          met = so_far.met;
          meets = λ h m. so_far.meets h (meets_alike (sym same) m);
          marked = λ h m. elim (so_far.marked h m) [ inl held ↦ inl held | inr n ↦ inr (meets_alike same n) ];
        }

    -- A unit that is no filler is a head.
    head_at : at < length units → (get_or units at 0 ≡ filler → ⊥) → head_from (usable units) at ≡ at
    head_at low other = ap (λ s. head_from s at) (usable-all units small) ∙ head-here units at low other

    -- A node's head is marked, and the walk goes on behind it.
    pub marking-node : (n : Node) (b : ℕ) → at < length units → (get_or units at 0 ≡ filler → ⊥) → read_at units at ≡ answer done (node n b)
        → Marking units b (adding heads at)
    marking-node n b low other e = record {
      long = length-set heads _ _ ∙ so_far.long;
      inside = omega (arith, (read_onward (usable units) at n b e).inside, ap length (usable-all units small));
      ends-here = λ rest. so_far.ends-here (on e rest);
      ends_there = λ whole. end-behind e (so_far.ends_there whole);
      met = λ h held. elim (adding_one heads at h there held) [
        | inl is ↦ so_far.meets h (here e (head_at low other ∙ sym is))
        | inr old ↦ so_far.met h old
      ];
      meets = λ h m. so_far.meets h (later e m);
      marked = λ h m. elim (so_far.marked h m) [
        | inl held ↦ inl (adding-kept heads at h there held)
        | inr n ↦ elim (meets_behind e n) [
          | inl is ↦ inl (subst (λ (k : ℕ). Holds (adding heads at) k) (sym (head_at low other) ∙ is) (adding-new heads at there))
          | inr rest ↦ inr rest
        ]
      ];
    }
      where
        there : at / word_bits < length heads
        there = omega (arith, so_far.long)

    -- Where there is nothing left to meet, the marks are whole.
    all-marked : ((h : ℕ) → Meets units h at → ⊥) → HeadsMarked units heads
    all-marked none = record {
      long = so_far.long;
      met = so_far.met;
      marked = λ h m. elim (so_far.marked h m) [ inl held ↦ held | inr n ↦ absurd (none h n) ];
    }

    -- The walk has come to the end,
    pub marking-ends : length units ≤ at → Walked units heads true
    marking-ends past =
        let e : read_at units at ≡ answer done end =
        ap (λ s. read_units s at) (usable-all units small) ∙ read_past units at (omega (arith, head_past units at past)) in
        record {
          tells = says_yes_lem (so_far.ends-here (ends e));
          marks = all-marked (λ h. none_met (λ n b f. let z : ◌≡◌ {A = ℕ} 0 1 = cc in omega arith));
        }

    -- or to units that are no node.
    pub marking_fails : at < length units → (get_or units at 0 ≡ filler → ⊥) → ((n : Node) (b : ℕ) → read_at units at ≡ answer done (node n b) → ⊥)
        → Walked units heads false
    marking_fails low other no_Node = record { tells = says_no (λ whole. fails (so_far.ends_there whole)); marks = all-marked (λ h. none_met no_Node) }
      where
        fails : ToEnd units at → ⊥
        fails (ends e) =
            let past = past_read (usable units) at e in
            omega (arith, past, ap length (usable-all units small), head_at low other)
        fails (on {q = q} {n = n} e rest) = no_Node n q e
