-- One stretch, its rules falling by number.
use Rattle.std.proofs.Common.{◌≡◌, refl, sym, ap, subst, ◌∙◌, ◌↔◌, ⊎_elim, List, [], ◌∷◌, ◌++◌, ℕ, ◌+◌, ◌-◌, ◌^◌, ◌≤◌, ◌<◌, arith, length, get_or, take, drop, length-append, take-add, drop-drop, take_at, drop_at}
use native.Mathlib.Decide.{dec_lt}
use Rattle.laws.specs.Bits.{word_bits, Holds, row_of}
use Rattle.grammar.specs.Rules.{Grammar, rule_count, rule_at}
use Rattle.grammar.specs.Sentences.{Derives}
use Rattle.grammar.proofs.Facts.{derives-some}
use Rattle.plain.specs.Table.{row_words, Stretch, stretch, place, needed}
use Rattle.plain.specs.Calls.{Ordinary}
use Rattle.plain.specs.inner.Filling.{Held, Room, Splits, Filling, Kept}
use Rattle.plain.proofs.Standing.{place_inside, place_shorter, place_same, row_inside}
use Rattle.plain.proofs.Derivations.{Right, From, from_derives, derives_from, from_none, from_more, from_new, from_one}
use Rattle.plain.proofs.Marking.{Marked}
use Rattle.plain.proofs.Seeding.{stretch-long, stretch-first}

-- A cut of a stretch.
cut : (ts : List ℕ) (l i m : ℕ) → m ≤ l → stretch ts l i ≡ stretch ts m i ++ stretch ts (l - m) (i + m)
cut ts l i m few =
    let e : l ≡ m + (l - m) = omega arith in
    ap (λ (q : ℕ). take q (drop i ts)) e ∙ take-add m (l - m) (drop i ts) ∙ ap (λ (w : List ℕ). stretch ts m i ++ take (l - m) w) (drop-drop m i ts)

-- Rules from rule `r` on are done for the stretch of `l` tokens behind the first `i`: its row holds what comes from them.
-- Rows before it are settled, and rows behind it hold their tokens alone.
pub record Falling (g : Grammar) (ts before table : List ℕ) (l i r : ℕ) : Type 0 where
  pub fits : (j : ℕ) → j < needed (length ts) → get_or table j 0 < 2 ^ word_bits
  pub settled :
      (k j x : ℕ) → Stretch (length ts) k j → place (length ts) k j < place (length ts) l i
      → Held table (length ts) k j x ↔ Derives g x (stretch ts k j)
  pub here : (x : ℕ) → Held table (length ts) l i x ↔ From g (stretch ts l i) r x
  pub seeded :
      (k j x : ℕ) → Stretch (length ts) k j → place (length ts) l i < place (length ts) k j
      → Held table (length ts) k j x ↔ (stretch ts k j ≡ x ∷ [])
  pub kept : Kept (length ts) before table

module _ {g : Grammar} {ts before : List ℕ} {l i : ℕ} (s : Stretch (length ts) l i) where
  -- At first only a token can be there.
  pub falling_starts : {r : ℕ} → Ordinary g.tokens ts → rule_count g ≤ r → Filling g ts before (place (length ts) l i) → Falling g ts before before l i r
  falling_starts ordinary few h = record {
    fits = h.fits;
    settled = h.settled;
    here = λ x. (
      (λ held. let e : stretch ts l i ≡ x ∷ [] = (h.seeded l i x s (omega arith)).0 held in
          From.itself (subst (λ (t : ℕ). t < g.tokens) (sym (stretch-first ts l i x s e)) (ordinary.below i (omega (arith, s.some, s.inside)))) e),
      (λ from. (h.seeded l i x s (omega arith)).1 (from_none few from)),
    );
    seeded = λ k j x t behind. h.seeded k j x t (omega arith);
    kept = record { long = refl; behind = λ j m. refl };
  }

  -- A rule whose right side does not derive the stretch changes nothing.
  pub falling_passes : {table : List ℕ} {r : ℕ} → Falling g ts before table l i (r + 1) → (Right g r (stretch ts l i) → ⊥) → Falling g ts before table l i r
  falling_passes h not_so = record {
    fits = h.fits;
    settled = h.settled;
    here = λ x. (
      (λ held. from_more ((h.here x).0 held)),
      (λ from. ⊎_elim (h.here x).1 (λ (new : ((rule_at g _).left ≡ x) × Right g _ (stretch ts l i)). absurd (not_so new.1)) (from_one from)),
    );
    seeded = h.seeded;
    kept = h.kept;
  }

  -- One whose right side does adds its left side.
  pub falling_marks : {table marked : List ℕ} {r a : ℕ} → Room (length ts) table → Falling g ts before table l i (r + 1) → r < rule_count g → a ≡ (rule_at g r).left → Right g r (stretch ts l i)
      → Marked table (place (length ts) l i) a marked → Falling g ts before marked l i r
  falling_marks {table} {marked} {r} {a} room h there is right m = record {
    fits = m.fits (needed (length ts)) (omega (arith, place_inside (length ts) l i s)) h.fits;
    settled = λ k j x t less. subst (λ (row : List ℕ). Holds row x ↔ Derives g x (stretch ts k j)) (sym (other k j t (λ e. apart k j e less))) (h.settled k j x t less);
    here = λ x. (
      (λ held. ⊎_elim (λ (e : x ≡ a). from_new there (sym (e ∙ is)) right) (λ (old : Held table (length ts) l i x). from_more ((h.here x).0 old)) (m.one x held)),
      (λ from. ⊎_elim (λ (old : From g (stretch ts l i) (r + 1) x). m.kept x ((h.here x).1 old))
          (λ (new : ((rule_at g r).left ≡ x) × Right g r (stretch ts l i)). subst (λ (y : ℕ). Held marked (length ts) l i y) (is ∙ new.0) m.new) (from_one from)),
    );
    seeded = λ k j x t behind. subst (λ (row : List ℕ). Holds row x ↔ (stretch ts k j ≡ x ∷ [])) (sym (other k j t (λ e. apart' k j e behind))) (h.seeded k j x t behind);
    kept = record {
      long = m.long ∙ h.kept.long;
      behind = λ j late. m.outside j (omega (arith, place_inside (length ts) l i s)) ∙ h.kept.behind j late;
    };
  }
    where
      other : (k j : ℕ) → Stretch (length ts) k j → (place (length ts) k j ≡ place (length ts) l i → ⊥) → row_of row_words marked (place (length ts) k j) ≡ row_of row_words table (place (length ts) k j)
      other k j t n = m.other (place (length ts) k j) n (row_inside room (place_inside (length ts) k j t))

      apart : (k j : ℕ) → place (length ts) k j ≡ place (length ts) l i → place (length ts) k j < place (length ts) l i → ⊥
      apart k j e less = omega arith

      apart' : (k j : ℕ) → place (length ts) k j ≡ place (length ts) l i → place (length ts) l i < place (length ts) k j → ⊥
      apart' k j e less = omega arith

  -- With all rules done the stretch is settled.
  pub falling_ends : {table : List ℕ} {r : ℕ} → r ≡ 0 → Falling g ts before table l i r → Filling g ts table (place (length ts) l i + 1)
  falling_ends {table} {r} last h = record {
    fits = h.fits;
    settled = λ k j x t less. elim (dec_lt (place (length ts) k j) (place (length ts) l i)) [
      | yes m ↦ h.settled k j x t m
      | no m ↦ (let same : (k ≡ l) × (j ≡ i) = place_same (length ts) k j l i t s (omega arith) in
          subst (λ (q : ℕ). Held table (length ts) q j x ↔ Derives g x (stretch ts q j)) (sym same.0)
          (subst (λ (q : ℕ). Held table (length ts) l q x ↔ Derives g x (stretch ts l q)) (sym same.1) (whole x)))
    ];
    seeded = λ k j x t late. h.seeded k j x t (omega arith);
  }
    where
      whole : (x : ℕ) → Held table (length ts) l i x ↔ Derives g x (stretch ts l i)
      whole x = (
        (λ held. from_derives ((h.here x).0 held)),
        (λ d. (h.here x).1 (subst (λ (q : ℕ). From g (stretch ts l i) q x) (sym last) (derives_from d))),
      )

  -- Cuts by the table are cuts by derivations, ..
  pub splits_derived : {table : List ℕ} {r b c : ℕ} → Falling g ts before table l i r → (q : Splits table (length ts) l i b c)
      → Derives g b (stretch ts q.middle i) × Derives g c (stretch ts (l - q.middle) (i + q.middle)) × (stretch ts l i ≡ stretch ts q.middle i ++ stretch ts (l - q.middle) (i + q.middle))
  splits_derived {b = b} {c} h q = (
    (h.settled m i b first (place_shorter (length ts) m i l i first q.less)).0 q.first,
    (h.settled (l - m) (i + m) c second (place_shorter (length ts) (l - m) (i + m) l i second (omega (arith, q.some, q.less)))).0 q.second,
    cut ts l i m (omega (arith, q.less)),
  )
    where
      m : ℕ
      m = q.middle

      first : Stretch (length ts) m i
      first = record { some = q.some; inside = omega (arith, q.less, s.inside) }

      second : Stretch (length ts) (l - m) (i + m)
      second = record { some = omega (arith, q.less); inside = omega (arith, q.less, s.inside) }

  -- .. and the other way round.
  pub derived_splits : {table : List ℕ} {r b c : ℕ} {u v : List ℕ} → Falling g ts before table l i r → Derives g b u → Derives g c v → stretch ts l i ≡ u ++ v
      → Splits table (length ts) l i b c
  derived_splits {b = b} {c} {u} {v} h d e is = record {
    middle = m;
    some = derives-some d;
    less = less;
    first = (h.settled m i b first (place_shorter (length ts) m i l i first less)).1 (subst (Derives g b) u_is d);
    second = (h.settled (l - m) (i + m) c second (place_shorter (length ts) (l - m) (i + m) l i second (omega (arith, derives-some d)))).1 (subst (Derives g c) v_is e);
  }
    where
      m : ℕ
      m = length u

      both : m + length v ≡ l
      both = sym (length-append u v) ∙ sym (ap length is) ∙ stretch-long ts l i s

      less : m < l
      less = omega (arith, both, derives-some e)

      first : Stretch (length ts) m i
      first = record { some = derives-some d; inside = omega (arith, both, s.inside) }

      second : Stretch (length ts) (l - m) (i + m)
      second = record { some = omega (arith, less); inside = omega (arith, less, s.inside) }

      joined : u ++ v ≡ stretch ts m i ++ stretch ts (l - m) (i + m)
      joined = sym is ∙ cut ts l i m (omega (arith, less))

      u_is : u ≡ stretch ts m i
      u_is = sym (take_at u v m refl) ∙ ap (take m) joined ∙ take_at (stretch ts m i) (stretch ts (l - m) (i + m)) m (stretch-long ts m i first)

      v_is : v ≡ stretch ts (l - m) (i + m)
      v_is = sym (drop_at u v m refl) ∙ ap (drop m) joined ∙ drop_at (stretch ts m i) (stretch ts (l - m) (i + m)) m (stretch-long ts m i first)
