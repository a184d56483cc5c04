-- Numbers and places, one symbol after the other; and how many new symbols the rules need.
use Rattle.std.proofs.Common.{◌≡◌, refl, sym, ap, ◌∙◌, Bool, true, false, List, [], ◌∷◌, ◌++◌, append_assoc, append-nil, ℕ, zero, suc, ◌+◌, ◌-◌, ◌*◌, ◌≤◌, ◌<◌, add-one, arith, length, take, set, get_or, length-append, take-suc, take-suc-set}
use Rattle.std.specs.List.{filter}
use Rattle.std.proofs.lemmas.List.Elements.{filter-append}
use Rattle.laws.proofs.Tests.{either_way}
use Rattle.translation.specs.inner.Marks.{marked}
use Rattle.written.specs.Written.{WrittenRule}
use Rattle.written.specs.Form.{longest}
use Rattle.written.specs.Split.{given}
use Rattle.written.specs.Translation.{staying, number, places, new_symbols, all_new}
use Rattle.written.proofs.Numbers.{number-kept, number_gone}

-- The number of a symbol, counted by the library.
pub kept-count : (keep : List Bool) (x : ℕ) → x ≤ length keep → length (filter (λ (b : Bool). b) (take x keep)) ≡ number (marked keep) x
unfolding number staying
kept-count keep zero h = refl
kept-count keep (suc x) h =
    let before = kept-count keep x (omega arith) in
    let here = ap (λ (l : List Bool). length (filter (λ (b : Bool). b) l)) (take-suc keep x false (omega arith))
    ∙ ap length (filter-append (λ (b : Bool). b) (take x keep) (get_or keep x false ∷ []))
    ∙ length-append (filter (λ (b : Bool). b) (take x keep)) (filter (λ (b : Bool). b) (get_or keep x false ∷ [])) in
    either_way (marked keep x)
    (λ e. let n = number-kept (marked keep) x e in let k = ap (λ (b : Bool). length (filter (λ (c : Bool). c) (b ∷ []))) e in omega arith)
    (λ e. let n = number_gone (marked keep) x e in let k = ap (λ (b : Bool). length (filter (λ (c : Bool). c) (b ∷ []))) e in omega arith)

-- The places read so far, and those that are to come, are all.
pub record Placing (keep : ℕ → Bool) (total : List ℕ) (rest out : List ℕ) (k : ℕ) : Type 0 where
  pub few : k + length rest ≤ longest
  pub same : take k out ++ places keep rest ≡ total

place_kept : (keep : ℕ → Bool) (x : ℕ) (l : List ℕ) → keep x ≡ true → places keep (x ∷ l) ≡ x ∷ places keep l
unfolding places given
place_kept keep x l e = rw (places, e) refl

place_gone : (keep : ℕ → Bool) (x : ℕ) (l : List ℕ) → keep x ≡ false → places keep (x ∷ l) ≡ places keep l
unfolding places given
place_gone keep x l e = rw (places, e) refl

places_none : (keep : ℕ → Bool) → places keep [] ≡ []
unfolding places
places_none keep = refl

module _ (keep : ℕ → Bool) (total : List ℕ) {rest more : List ℕ} (out : List ℕ) {k x : ℕ} (p : Placing keep total rest out k) (e : rest ≡ x ∷ more) where
  pub placing_gone : keep x ≡ false → Placing keep total more out k
  placing_gone h = record {
    few = let f = p.few in let l = ap length e in omega arith;
    same = ap (λ (l : List ℕ). take k out ++ l) (sym (place_gone keep x more h)) ∙ sym (ap (λ (l : List ℕ). take k out ++ places keep l) e) ∙ p.same;
  }

  pub placing-kept : keep x ≡ true → length out ≡ longest → Placing keep total more (set out k x) (k + 1)
  placing-kept h long =
      let f = p.few in let l = ap length e in
      let room : k < length out = omega arith in
      record {
        few = omega arith;
        same = ap (λ (j : ℕ). take j (set out k x) ++ places keep more) (add-one k)
            ∙ ap (λ (l : List ℕ). l ++ places keep more) (take-suc-set out k x room)
            ∙ append_assoc (take k out) (x ∷ []) (places keep more)
            ∙ ap (λ (l : List ℕ). take k out ++ l) (sym (place_kept keep x more h))
            ∙ sym (ap (λ (l : List ℕ). take k out ++ places keep l) e) ∙ p.same;
      }

pub placing-ends : (keep : ℕ → Bool) (total : List ℕ) {rest : List ℕ} (out : List ℕ) {k : ℕ} → Placing keep total rest out k → rest ≡ [] → take k out ≡ total
placing-ends keep total out {k} p e =
    sym (append-nil (take k out))
    ∙ ap (λ (l : List ℕ). take k out ++ l) (sym (places_none keep))
    ∙ sym (ap (λ (l : List ℕ). take k out ++ places keep l) e) ∙ p.same

-- The new symbols counted so far, and those that are to come, are all.
pub record Counted (keep : ℕ → Bool) (all rest : List WrittenRule) (total : ℕ) : Type 0 where
  pub same : total + all_new keep rest ≡ all_new keep all
  pub low : total + 16 * length rest ≤ 16 * 65535

pub new-first : (keep : ℕ → Bool) (r : WrittenRule) (rules : List WrittenRule) → all_new keep (r ∷ rules) ≡ new_symbols (places keep r.right) + all_new keep rules
unfolding all_new
new-first keep r rules = refl

new_none : (keep : ℕ → Bool) → all_new keep [] ≡ 0
unfolding all_new
new_none keep = refl

-- The same by the places that were read.
pub counted_on : (keep : ℕ → Bool) (all : List WrittenRule) {rest more : List WrittenRule} {r : WrittenRule} {total n : ℕ} (held : List ℕ) → Counted keep all rest total → rest ≡ r ∷ more
    → held ≡ places keep r.right → length held ≤ longest → n ≡ length held - 2 → Counted keep all more (total + n)
counted_on keep all {rest} {more} {r} {total} {n} held c e el few en =
    let same : total + (new_symbols (places keep r.right) + all_new keep more) ≡ all_new keep all =
    ap (λ (j : ℕ). total + j) (sym (new-first keep r more) ∙ sym (ap (all_new keep) e)) ∙ c.same in
    let count = ap length el in
    let l = ap length e in
    let low = c.low in
    record { same = omega arith; low = omega arith }

pub counted-ends : (keep : ℕ → Bool) (all : List WrittenRule) {rest : List WrittenRule} {total : ℕ} → Counted keep all rest total → rest ≡ [] → total ≡ all_new keep all
counted-ends keep all c e =
    let z = ap (all_new keep) e ∙ new_none keep in
    let s = c.same in
    omega arith
