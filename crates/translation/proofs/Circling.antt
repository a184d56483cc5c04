-- What a rule leads to, in place; and that what is left when no symbol can be dropped has one that derives itself.
use Rattle.std.proofs.Common.{◌≡◌, refl, sym, ap, subst, ◌∙◌, Bool, true, false, not, List, [], ◌∷◌, ◌++◌, ◌⊎◌, inl, inr, ⊎_elim, ℕ, zero, suc, ◌+◌, ◌<◌, arith, length, get_or, set, replicate, length-set, eqb, ne_eqb}
use Rattle.std.specs.List.{filter}
use mathlib.Core.List.{cons≢nil}
use lib.ListN.{length-replicate}
use Rattle.laws.specs.Counts.{once}
use Rattle.laws.specs.Decides.{Decides}
use Rattle.laws.proofs.Tests.{either_way}
use Rattle.laws.proofs.Decides.{false_true, true_false}
use Rattle.grammar.proofs.Marks.{mark_kept, mark_new, mark_old}
use Rattle.written.specs.Lists.{In, Each}
use Rattle.written.specs.Lists.Each.{and}
use Rattle.written.specs.Written.{WrittenRule, Written, Becomes, MayBeEmpty, no_written}
use Rattle.written.specs.Written.Becomes.{nothing}
use Rattle.written.proofs.Lists.{at_in, in_back, none_there, head_or_tail}
use Rattle.written.proofs.Becoming.{becomes-join, becomes-part}
use Rattle.written.proofs.Alone.{Among, Leads}
use Rattle.written.proofs.Knowing.{in_writes, told}
use Rattle.translation.specs.inner.Marks.{most_symbols, marked, walk}
use Rattle.translation.specs.inner.Circles.{filled_in, leading, marks_if, leads_to, leads}
use Rattle.translation.specs.inner.Symbols.{LowRule}
use Rattle.translation.proofs.Marked.{none_marked}

-- What may not be empty, counted by the library.
pub filled-count : (empty : ℕ → Bool) (l : List ℕ) → length (filter (λ (x : ℕ). not (empty x)) l) ≡ filled_in empty l
unfolding filled_in
filled-count empty [] = refl
filled-count empty (x ∷ l) = either_way (empty x)
    (λ e. rw e (let h = filled-count empty l in omega arith))
    (λ e. rw e (let h = filled-count empty l in omega arith))

-- The test of a place.
pub leading-none : (k : ℕ) (e : Bool) → k ≡ 0 → eqb k 0 ≡ leading k e
unfolding leading
leading-none zero e h = refl
leading-none (suc k) e h = absurd (omega arith)

pub leading-one : (k : ℕ) (e : Bool) → k ≡ 1 → not e ≡ leading k e
unfolding leading
leading-one zero e h = absurd (omega arith)
leading-one (suc zero) e h = refl
leading-one (suc (suc k)) e h = absurd (omega arith)

pub leading-more : (k : ℕ) (e : Bool) → (k ≡ 0 → ⊥) → (k ≡ 1 → ⊥) → eqb k 1 ≡ leading k e
unfolding leading
leading-more zero e h f = absurd (h refl)
leading-more (suc zero) e h f = absurd (f refl)
leading-more (suc (suc k)) e h f = ne_eqb (suc (suc k)) 1 f

-- Marking those that pass.
marks-pass : (test : ℕ → Bool) (marks : List Bool) (x : ℕ) (l : List ℕ) → test x ≡ true → marks_if test marks (x ∷ l) ≡ marks_if test (set marks x true) l
unfolding marks_if
marks-pass test marks x l e = rw (marks_if, e) refl

marks_fail : (test : ℕ → Bool) (marks : List Bool) (x : ℕ) (l : List ℕ) → test x ≡ false → marks_if test marks (x ∷ l) ≡ marks_if test marks l
unfolding marks_if
marks_fail test marks x l e = rw (marks_if, e) refl

marks_none : (test : ℕ → Bool) (marks : List Bool) → marks_if test marks [] ≡ marks
unfolding marks_if
marks_none test marks = refl

pub record Picking (test : ℕ → Bool) (total : List Bool) (rest : List ℕ) (marks : List Bool) : Type 0 where
  pub same : marks_if test marks rest ≡ total

pub picks : {test : ℕ → Bool} {total : List Bool} {rest more : List ℕ} {x : ℕ} (marks : List Bool) → Picking test total rest marks → rest ≡ x ∷ more → test x ≡ true
    → Picking test total more (set marks x true)
picks {test} {more = more} {x} marks p e h = record { same = sym (marks-pass test marks x more h) ∙ sym (ap (marks_if test marks) e) ∙ p.same }

pub picks_not : {test : ℕ → Bool} {total : List Bool} {rest more : List ℕ} {x : ℕ} (marks : List Bool) → Picking test total rest marks → rest ≡ x ∷ more → test x ≡ false
    → Picking test total more marks
picks_not {test} {more = more} {x} marks p e h = record { same = sym (marks_fail test marks x more h) ∙ sym (ap (marks_if test marks) e) ∙ p.same }

pub picks_end : {test : ℕ → Bool} {total : List Bool} {rest : List ℕ} (marks : List Bool) → Picking test total rest marks → rest ≡ [] → marks ≡ total
picks_end {test} marks p e = sym (marks_none test marks) ∙ sym (ap (marks_if test marks) e) ∙ p.same

-- Marking keeps the number of marks, and what was marked; it marks what passes, and nothing else.
marks-long : (test : ℕ → Bool) (l : List ℕ) (marks : List Bool) → length (marks_if test marks l) ≡ length marks
marks-long test [] marks = ap length (marks_none test marks)
marks-long test (x ∷ l) marks = either_way (test x)
    (λ e. ap length (marks-pass test marks x l e) ∙ marks-long test l (set marks x true) ∙ length-set marks x true)
    (λ e. ap length (marks_fail test marks x l e) ∙ marks-long test l marks)

marks-keep : (test : ℕ → Bool) (l : List ℕ) → Each (λ (x : ℕ). x < most_symbols) l → (marks : List Bool) → length marks ≡ most_symbols → (b : ℕ)
    → marked marks b ≡ true → marked (marks_if test marks l) b ≡ true
marks-keep test [] low marks h b m = ap (λ (k : List Bool). marked k b) (marks_none test marks) ∙ m
marks-keep test (x ∷ l) (and i low) marks h b m = either_way (test x)
    (λ e. ap (λ (k : List Bool). marked k b) (marks-pass test marks x l e)
    ∙ marks-keep test l low (set marks x true) (length-set marks x true ∙ h) b (mark_kept marks x b m (let q : x < most_symbols = i in omega arith)))
    (λ e. ap (λ (k : List Bool). marked k b) (marks_fail test marks x l e) ∙ marks-keep test l low marks h b m)

marks-new : (test : ℕ → Bool) (l : List ℕ) → Each (λ (x : ℕ). x < most_symbols) l → (marks : List Bool) → length marks ≡ most_symbols → (b : ℕ)
    → In b l → test b ≡ true → marked (marks_if test marks l) b ≡ true
marks-new test [] low marks h b i t = absurd (none_there i)
marks-new test (x ∷ l) (and q low) marks h b i t = either_way (test x)
    (λ e. ap (λ (k : List Bool). marked k b) (marks-pass test marks x l e)
    ∙ head_or_tail i
    (λ (s : x ≡ b). marks-keep test l low (set marks x true) (length-set marks x true ∙ h) b
    (subst (λ (y : ℕ). marked (set marks x true) y ≡ true) s (mark_new marks x (let p : x < most_symbols = q in omega arith))))
    (λ j. marks-new test l low (set marks x true) (length-set marks x true ∙ h) b j t))
    (λ e. ap (λ (k : List Bool). marked k b) (marks_fail test marks x l e)
    ∙ head_or_tail i
    (λ (s : x ≡ b). absurd (true_false (sym t ∙ ap test (sym s) ∙ e)))
    (λ j. marks-new test l low marks h b j t))

pub record Picked (test : ℕ → Bool) (l : List ℕ) (b : ℕ) : Type 0 where
  pub within : In b l
  pub passes : test b ≡ true

picked_more : (test : ℕ → Bool) (y : ℕ) {l : List ℕ} {b : ℕ} → Picked test l b → Picked test (y ∷ l) b
picked_more test y p = record { within = In.there p.within; passes = p.passes }

marks-only : (test : ℕ → Bool) (l : List ℕ) (marks : List Bool) (b : ℕ) → marked (marks_if test marks l) b ≡ true → (marked marks b ≡ true) ⊎ Picked test l b
marks-only test [] marks b m = inl (sym (ap (λ (k : List Bool). marked k b) (marks_none test marks)) ∙ m)
marks-only test (x ∷ l) marks b m = either_way (test x)
    (λ e. ⊎_elim
    (λ o. ⊎_elim
    (λ (s : b ≡ x). inr (record { within = subst (λ (y : ℕ). In b (y ∷ l)) s In.here; passes = ap test s ∙ e }))
    inl
    (mark_old marks x b o))
    (λ p. inr (picked_more test x p))
    (marks-only test l (set marks x true) b (sym (ap (λ (k : List Bool). marked k b) (marks-pass test marks x l e)) ∙ m)))
    (λ e. ⊎_elim inl (λ p. inr (picked_more test x p)) (marks-only test l marks b (sym (ap (λ (k : List Bool). marked k b) (marks_fail test marks x l e)) ∙ m)))

-- The step of a rule.
leads_on : (empty held : ℕ → Bool) (marks : List Bool) (r : WrittenRule) → held r.left ≡ true → leads empty held marks r ≡ marks_if (leads_to empty r.right) marks r.right
unfolding leads
leads_on empty held marks r e = rw (leads, e) refl

leads_not : (empty held : ℕ → Bool) (marks : List Bool) (r : WrittenRule) → held r.left ≡ false → leads empty held marks r ≡ marks
unfolding leads
leads_not empty held marks r e = rw (leads, e) refl

pub step_rests : (empty held : ℕ → Bool) (marks : List Bool) (r : WrittenRule) {a : ℕ} → a ≡ r.left → held a ≡ false → marks ≡ leads empty held marks r
step_rests empty held marks r e m = sym (leads_not empty held marks r (ap held (sym e) ∙ m))

pub step_leads : (empty held : ℕ → Bool) (marks out : List Bool) (r : WrittenRule) {a k : ℕ} → a ≡ r.left → held a ≡ true
    → k ≡ filled_in empty r.right → out ≡ marks_if (λ (x : ℕ). leading k (empty x)) marks r.right → out ≡ leads empty held marks r
step_leads empty held marks out r ea m ek h =
    h ∙ ap (λ (j : ℕ). marks_if (λ (x : ℕ). leading j (empty x)) marks r.right) ek ∙ sym (leads_on empty held marks r (ap held (sym ea) ∙ m))

-- A rule of a held left side leads to `b`.
pub record LedRule (empty held : ℕ → Bool) (rules : List WrittenRule) (b : ℕ) : Type 0 where
  pub rule : WrittenRule
  pub there : In rule rules
  pub holds : held rule.left ≡ true
  pub picked : Picked (leads_to empty rule.right) rule.right b

module _ (empty held : ℕ → Bool) where
  led_more : (q : WrittenRule) {rules : List WrittenRule} {b : ℕ} → LedRule empty held rules b → LedRule empty held (q ∷ rules) b
  led_more q l = record { rule = l.rule; there = In.there l.there; holds = l.holds; picked = l.picked }

  -- What is marked after a walk was marked before, or a rule leads to it.
  walk-only : (rules : List WrittenRule) (marks : List Bool) (b : ℕ) → marked (walk (leads empty held) marks rules) b ≡ true → (marked marks b ≡ true) ⊎ LedRule empty held rules b
  unfolding walk
  walk-only [] marks b m = inl m
  walk-only (r ∷ rules) marks b m = ⊎_elim
      (λ o. either_way (held r.left)
      (λ h. ⊎_elim inl (λ p. inr (record { rule = r; there = In.here; holds = h; picked = p }))
      (marks-only (leads_to empty r.right) r.right marks b (sym (ap (λ (k : List Bool). marked k b) (leads_on empty held marks r h)) ∙ o)))
      (λ h. inl (sym (ap (λ (k : List Bool). marked k b) (leads_not empty held marks r h)) ∙ o)))
      (λ l. inr (led_more r l))
      (walk-only rules (leads empty held marks r) b m)

  step_keeps : (r : WrittenRule) → LowRule r → (marks : List Bool) → length marks ≡ most_symbols → (length (leads empty held marks r) ≡ most_symbols)
      × ((b : ℕ) → marked marks b ≡ true → marked (leads empty held marks r) b ≡ true)
  step_keeps r low marks h = either_way (held r.left)
      (λ e. (
        ap length (leads_on empty held marks r e) ∙ marks-long (leads_to empty r.right) r.right marks ∙ h,
        λ b m. ap (λ (k : List Bool). marked k b) (leads_on empty held marks r e) ∙ marks-keep (leads_to empty r.right) r.right low.right marks h b m,
      ))
      (λ e. (ap length (leads_not empty held marks r e) ∙ h, λ b m. ap (λ (k : List Bool). marked k b) (leads_not empty held marks r e) ∙ m))

  walk_kept : (rules : List WrittenRule) → Each LowRule rules → (marks : List Bool) → length marks ≡ most_symbols → (b : ℕ) → marked marks b ≡ true
      → marked (walk (leads empty held) marks rules) b ≡ true
  unfolding walk
  walk_kept [] low marks h b m = m
  walk_kept (r ∷ rules) (and q low) marks h b m =
      let s = step_keeps r q marks h in
      walk_kept rules low (leads empty held marks r) s.0 b (s.1 b m)

  walk-has : (rules : List WrittenRule) → Each LowRule rules → (marks : List Bool) → length marks ≡ most_symbols → (b : ℕ) → LedRule empty held rules b
      → marked (walk (leads empty held) marks rules) b ≡ true
  unfolding walk
  walk-has [] low marks h b l = absurd (none_there l.there)
  walk-has (r ∷ rules) (and q low) marks h b l =
      let s = step_keeps r q marks h in
      head_or_tail l.there
      (λ (e : r ≡ l.rule).
      let on : held r.left ≡ true = ap (λ (x : WrittenRule). held x.left) e ∙ l.holds in
      let p : Picked (leads_to empty r.right) r.right b = subst (λ (x : WrittenRule). Picked (leads_to empty x.right) x.right b) (sym e) l.picked in
      walk_kept rules low (leads empty held marks r) s.0 b
      (ap (λ (k : List Bool). marked k b) (leads_on empty held marks r on) ∙ marks-new (leads_to empty r.right) r.right q.right marks h b p.within p.passes))
      (λ i. walk-has rules low (leads empty held marks r) s.0 b (record { rule = l.rule; there = i; holds = l.holds; picked = l.picked }))

-- Two lists that are empty together are empty.
empty-both : (u v : List ℕ) → u ++ v ≡ [] → (u ≡ []) × (v ≡ [])
empty-both [] v e = (refl, e)
empty-both (x ∷ u) v e = absurd (cons≢nil e)

-- Counting what may not be empty, of two lists.
filled-append : (empty : ℕ → Bool) (u v : List ℕ) → filled_in empty (u ++ v) ≡ filled_in empty u + filled_in empty v
unfolding filled_in
filled-append empty [] v = omega arith
filled-append empty (x ∷ u) v = let h = filled-append empty u v in omega arith

module _ (w : Written) (empty : ℕ → Bool) (exact : (a : ℕ) → Decides (empty a) (MayBeEmpty w a)) where
  -- None: the list becomes nothing, and the other way round.
  none_filled : (l : List ℕ) → filled_in empty l ≡ 0 → Becomes w l []
  unfolding filled_in
  none_filled [] e = nothing
  none_filled (x ∷ l) e = either_way (empty x)
      (λ h. becomes-join ((exact x).if_yes h) (none_filled l (rest h)))
      (λ h. absurd (some h))
    where
      rest : empty x ≡ true → filled_in empty l ≡ 0
      rest h = let z : once (not (empty x)) ≡ 0 = ap (λ (b : Bool). once (not b)) h in omega arith

      some : empty x ≡ false → ⊥
      some h = let z : once (not (empty x)) ≡ 1 = ap (λ (b : Bool). once (not b)) h in omega arith

  empty_none : (l : List ℕ) {v : List ℕ} → Becomes w l v → v ≡ [] → filled_in empty l ≡ 0
  unfolding filled_in
  empty_none [] p e = refl
  empty_none (x ∷ l) p e =
      let q = becomes-part (x ∷ []) l p in
      let parts = empty-both q.front q.back (sym q.whole ∙ e) in
      let z : once (not (empty x)) ≡ 0 = ap (λ (b : Bool). once (not b)) (told (exact x) (subst (Becomes w (x ∷ [])) parts.0 q.fore)) in
      let r = empty_none l q.aft parts.1 in
      omega arith

  -- A list with a symbol in it, parted there.
  record Parted (l : List ℕ) (b : ℕ) : Type 0 where
    before : List ℕ
    after : List ℕ
    whole : l ≡ before ++ b ∷ after

  parted : {l : List ℕ} {b : ℕ} → In b l → Parted l b
  parted (In.here {l = l}) = record { before = []; after = l; whole = refl }
  parted (In.there {y = y} i) = let p = parted i in record { before = y ∷ p.before; after = p.after; whole = ap (λ (k : List ℕ). y ∷ k) p.whole }

  filled-parted : (u v : List ℕ) (b : ℕ) → filled_in empty (u ++ b ∷ v) ≡ filled_in empty u + (once (not (empty b)) + filled_in empty v)
  unfolding filled_in
  filled-parted u v b = filled-append empty u (b ∷ v)

  -- A place passes the test exactly where all others may be empty.
  others : (k : ℕ) (e : Bool) (x y : ℕ) → leading k e ≡ true → k ≡ x + (once (not e) + y) → (x ≡ 0) × (y ≡ 0)
  unfolding leading
  others zero e x y l h = (omega arith, omega arith)
  others (suc zero) true x y l h = absurd (false_true l)
  others (suc zero) false x y l h = (omega arith, omega arith)
  others (suc (suc k)) e x y l h = absurd (false_true l)

  picked_among : (l : List ℕ) (b : ℕ) → Picked (leads_to empty l) l b → Among w l b
  picked_among l b p =
      let q = parted p.within in
      let both = others (filled_in empty l) (empty b) (filled_in empty q.before) (filled_in empty q.after) p.passes (ap (filled_in empty) q.whole ∙ filled-parted q.before q.after b) in
      record {
        before = q.before;
        after = q.after;
        whole = q.whole;
        empty-before = none_filled q.before both.0;
        empty-after = none_filled q.after both.1;
      }

  one_left : (k : ℕ) (e : Bool) (x y : ℕ) → x ≡ 0 → y ≡ 0 → k ≡ x + (once (not e) + y) → leading k e ≡ true
  unfolding leading
  one_left zero e x y f g h = refl
  one_left (suc zero) true x y f g h = absurd (omega arith)
  one_left (suc zero) false x y f g h = refl
  one_left (suc (suc k)) true x y f g h = absurd (omega arith)
  one_left (suc (suc k)) false x y f g h = absurd (omega arith)

  among_picked : (l : List ℕ) (b : ℕ) → Among w l b → Picked (leads_to empty l) l b
  among_picked l b q = record {
    within = subst (In b) (sym q.whole) (in_back q.before In.here);
    passes = one_left (filled_in empty l) (empty b) (filled_in empty q.before) (filled_in empty q.after) (empty_none q.before q.empty-before refl)
        (empty_none q.after q.empty-after refl) (ap (filled_in empty) q.whole ∙ filled-parted q.before q.after b);
  }

  -- The marks after a walk are exactly the symbols to which a held one leads.
  module _ (held led : List Bool) (low : Each LowRule w.rules) (walked : led ≡ walk (leads empty (marked held)) (replicate most_symbols false) w.rules) where
    pub record LedBy (b : ℕ) : Type 0 where
      pub from : ℕ
      pub holds : marked held from ≡ true
      pub leads : Leads w from b

    pub led_from : (b : ℕ) → marked led b ≡ true → LedBy b
    led_from b m = ⊎_elim
        (λ o. absurd (false_true (sym (none_marked most_symbols b) ∙ o)))
        (λ l.
        let wr = in_writes w l.there in
        record {
          from = l.rule.left;
          holds = l.holds;
          leads = record { rule = wr.rule; right = l.rule.right; writes = wr.writes; among = picked_among l.rule.right b l.picked };
        })
        (walk-only empty (marked held) w.rules (replicate most_symbols false) b (sym (ap (λ (k : List Bool). marked k b) walked) ∙ m))

    pub from_led : (a b : ℕ) → marked held a ≡ true → Leads w a b → marked led b ≡ true
    from_led a b h l =
        ap (λ (k : List Bool). marked k b) walked
        ∙ walk-has empty (marked held) w.rules low (replicate most_symbols false) (length-replicate {A = Bool} most_symbols false) b
        (record {
          rule = get_or w.rules l.rule no_written;
          there = at_in w.rules l.rule no_written l.writes.there;
          holds = ap (marked held) l.writes.left ∙ h;
          picked = subst (λ (x : List ℕ). Picked (leads_to empty x) x b) (sym l.writes.right) (among_picked l.right b l.among);
        })
