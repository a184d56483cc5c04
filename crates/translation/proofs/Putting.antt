-- Bytes put one behind the other: what is left to put gives what is wanted.
use Rattle.std.proofs.Common.{◌≡◌, refl, sym, ap, ap₂, subst, ◌∙◌, List, [], ◌∷◌, ◌++◌, append_assoc, ℕ, zero, suc, ◌+◌, ◌*◌, ◌/◌, ◌%◌, ◌≤◌, ◌<◌, arith, length, set, get_or, take, drop, length-append}
use Rattle.std.specs.Int.{w16, w32, to_be_bytes}
use Rattle.std.proofs.lemmas.Nat.{be_bytes_2, be_bytes_4}
use lib.Seq.{sets, sets-eq, length-sets, drop-nil}
use Rattle.laws.specs.Records.{flat}
use Rattle.laws.proofs.Records.{flat-length}
use Rattle.grammar.specs.Rules.{Rule}
use Rattle.grammar.specs.File.{header_bytes, rule_bytes}
use Rattle.written.specs.Split.{rule}
use Rattle.written.proofs.Filing.{rule-long}
use Rattle.written.specs.Bytes.{u16_bytes, u32_bytes, bytes_of_rule, header_of, bytes_of}
use Rattle.translation.specs.inner.Puts.{Puts}

-- Bytes behind bytes.
pub sets-append : (l : List ℕ) (i : ℕ) (a b : List ℕ) → sets (sets l i a) (i + length a) b ≡ sets l i (a ++ b)
sets-append l i [] b = let e : i + 0 ≡ i = omega arith in ap (λ (k : ℕ). sets l k b) e
sets-append l i (x ∷ a) b =
    let e : i + suc (length a) ≡ suc i + length a = omega arith in
    ap (λ (k : ℕ). sets (sets (set l i x) (suc i) a) k b) e ∙ sets-append (set l i x) (suc i) a b

-- Putting has come to `here`, and `rest` is to come.
pub record Putting (before : List ℕ) (at : ℕ) (bytes : List ℕ) (now : List ℕ) (here : ℕ) (rest : List ℕ) : Type 0 where
  pub long : length now ≡ length before
  pub room : here + length rest ≤ length now
  pub same : sets now here rest ≡ sets before at bytes
  pub end : here + length rest ≡ at + length bytes

pub putting_begins : (before : List ℕ) (at : ℕ) (bytes rest : List ℕ) → bytes ≡ rest → at + length bytes ≤ length before → Putting before at bytes before at rest
putting_begins before at bytes rest e h = record {
  long = refl;
  room = subst (λ (l : List ℕ). at + length l ≤ length before) e h;
  same = ap (sets before at) (sym e);
  end = ap (λ (l : List ℕ). at + length l) (sym e);
}

pub putting_same : {before : List ℕ} {at : ℕ} {bytes now : List ℕ} {here : ℕ} (rest more : List ℕ) → rest ≡ more → Putting before at bytes now here rest → Putting before at bytes now here more
putting_same {before} {at} {bytes} {now} {here} rest more e p = subst (Putting before at bytes now here) e p

-- Some bytes further.
pub putting_on : {before : List ℕ} {at : ℕ} {bytes now after : List ℕ} {here to : ℕ} (rest x y : List ℕ) → rest ≡ x ++ y → Putting before at bytes now here rest → Puts now here x after to
    → Putting before at bytes after to y
putting_on {before} {at} {bytes} {now} {after} {here} {to} rest x y e p q =
    let all : length rest ≡ length x + length y = ap length e ∙ length-append x y in
    let kept : length after ≡ length now = ap length q.stored ∙ length-sets now here x in
    let to_is = q.behind in
    record {
      long = kept ∙ p.long;
      room = let r = p.room in omega arith;
      same = ap₂ (λ (l : List ℕ) (k : ℕ). sets l k y) q.stored to_is ∙ sets-append now here x y ∙ ap (sets now here) (sym e) ∙ p.same;
      end = let r = p.end in omega arith;
    }

-- There is room for the next bytes.
pub putting_room : {before : List ℕ} {at : ℕ} {bytes now : List ℕ} {here : ℕ} (rest x y : List ℕ) → rest ≡ x ++ y → Putting before at bytes now here rest → here + length x ≤ length now
putting_room rest x y e p = let all : length rest ≡ length x + length y = ap length e ∙ length-append x y in let r = p.room in omega arith

pub putting_ends : {before : List ℕ} {at : ℕ} {bytes now : List ℕ} {here : ℕ} (rest : List ℕ) → rest ≡ [] → Putting before at bytes now here rest → Puts before at bytes now here
putting_ends {now = now} {here = here} rest e p =
    let none : length rest ≡ 0 = ap length e in
    record { stored = sym (ap (sets now here) e) ∙ p.same; behind = let r = p.end in omega arith }

-- A number in two bytes.
u16-be : (n : ℕ) → n < 65536 → to_be_bytes w16 n ≡ u16_bytes n
unfolding u16_bytes
u16-be n h = be_bytes_2 (n / 256 ∷ n % 256 ∷ []) n refl low (omega arith)
  where
    low : (i : ℕ) → get_or (n / 256 ∷ n % 256 ∷ []) i 0 < 256
    low zero = omega arith
    low (suc zero) = omega arith
    low (suc (suc i)) = omega arith

drop-drop : (k at : ℕ) (l : List ℕ) → drop k (drop at l) ≡ drop (at + k) l
drop-drop k zero l = let e : k ≡ 0 + k = omega arith in ap (λ (j : ℕ). drop j l) e
drop-drop k (suc at) [] = drop-nil k ∙ sym (drop-nil (suc at + k))
drop-drop k (suc at) (x ∷ l) = let e : suc (at + k) ≡ suc at + k = omega arith in drop-drop k at l ∙ ap (λ (j : ℕ). drop j (x ∷ l)) e

-- And in four.
u32-be : (n : ℕ) → n < 4294967296 → to_be_bytes w32 n ≡ u32_bytes n
unfolding u32_bytes u16_bytes
u32-be n h = be_bytes_4 (n / 65536 / 256 ∷ n / 65536 % 256 ∷ n % 65536 / 256 ∷ n % 65536 % 256 ∷ []) n refl low (omega arith)
  where
    low : (i : ℕ) → get_or (n / 65536 / 256 ∷ n / 65536 % 256 ∷ n % 65536 / 256 ∷ n % 65536 % 256 ∷ []) i 0 < 256
    low zero = omega arith
    low (suc zero) = omega arith
    low (suc (suc zero)) = omega arith
    low (suc (suc (suc zero))) = omega arith
    low (suc (suc (suc (suc i)))) = omega arith

-- Bytes copied into a part.
copied : (l bytes : List ℕ) (at : ℕ) {mid : List ℕ} → at + length bytes ≤ length l → mid ≡ bytes → {k : ℕ} → k ≡ length bytes
    → take at l ++ (mid ++ drop k (drop at l)) ≡ sets l at bytes
copied l bytes at {mid} h e {k} ek =
    ap₂ (λ (m : List ℕ) (j : ℕ). take at l ++ (m ++ drop j (drop at l))) e ek
    ∙ ap (λ (b : List ℕ). take at l ++ (bytes ++ b)) (drop-drop (length bytes) at l)
    ∙ sym (append_assoc (take at l) bytes (drop (at + length bytes) l))
    ∙ sym (sets-eq bytes l at h)

pub u16_stored : (l : List ℕ) (at n : ℕ) {mid : List ℕ} → at + 2 ≤ length l → n < 65536 → mid ≡ to_be_bytes w16 n → {k : ℕ} → k ≡ 2 → take at l ++ (mid ++ drop k (drop at l)) ≡ sets l at (u16_bytes n)
unfolding u16_bytes
u16_stored l at n h low e ek = copied l (u16_bytes n) at h (e ∙ u16-be n low) ek

pub u32_stored : (l : List ℕ) (at n : ℕ) {mid : List ℕ} → at + 4 ≤ length l → n < 4294967296 → mid ≡ to_be_bytes w32 n → {k : ℕ} → k ≡ 4 → take at l ++ (mid ++ drop k (drop at l)) ≡ sets l at (u32_bytes n)
unfolding u32_bytes u16_bytes
u32_stored l at n h low e ek = copied l (u32_bytes n) at h (e ∙ u32-be n low) ek

-- Two of them, one behind the other, and bytes behind these.
two_stored : (l : List ℕ) (at n : ℕ) (b : List ℕ) (to : ℕ) → to ≡ at + 2 → sets (sets l at (u16_bytes n)) to b ≡ sets l at (u16_bytes n ++ b)
unfolding u16_bytes
two_stored l at n b to e = ap (λ (k : ℕ). sets (sets l at (u16_bytes n)) k b) e ∙ sets-append l at (u16_bytes n) b

-- A rule in six.
pub rule-stored : (l one two three : List ℕ) (at a b c : ℕ) → one ≡ sets l at (u16_bytes a) → two ≡ sets one (at + 2) (u16_bytes b) → three ≡ sets two (at + 4) (u16_bytes c)
    → three ≡ sets l at (bytes_of_rule (rule a b c))
unfolding bytes_of_rule
rule-stored l one two three at a b c p q r =
    r
    ∙ ap (λ (x : List ℕ). sets x (at + 4) (u16_bytes c)) q
    ∙ two_stored one (at + 2) b (u16_bytes c) (at + 4) (omega arith)
    ∙ ap (λ (x : List ℕ). sets x (at + 2) (u16_bytes b ++ u16_bytes c)) p
    ∙ two_stored l at a (u16_bytes b ++ u16_bytes c) (at + 2) refl

pub puts_rule : (l after : List ℕ) (at a b c : ℕ) → after ≡ sets l at (bytes_of_rule (rule a b c)) → Puts l at (bytes_of_rule (rule a b c)) after (at + rule_bytes)
unfolding bytes_of_rule u16_bytes
puts_rule l after at a b c e = record { stored = e; behind = refl }

-- The header.
pub header-stored : (l none one three four five : List ℕ) (long n t r : ℕ) → none ≡ set l 0 1 → one ≡ sets none 1 (u32_bytes long)
    → three ≡ sets one 5 (u16_bytes n) → four ≡ sets three 7 (u16_bytes t) → five ≡ sets four 9 (u16_bytes r)
    → five ≡ sets l 0 (1 ∷ (u32_bytes long ++ (u16_bytes n ++ (u16_bytes t ++ u16_bytes r))))
unfolding u32_bytes u16_bytes
header-stored l none one three four five long n t r o p s u v =
    v
    ∙ ap (λ (x : List ℕ). sets x 9 (u16_bytes r)) u
    ∙ two_stored three 7 t (u16_bytes r) 9 refl
    ∙ ap (λ (x : List ℕ). sets x 7 (u16_bytes t ++ u16_bytes r)) s
    ∙ two_stored one 5 n (u16_bytes t ++ u16_bytes r) 7 refl
    ∙ ap (λ (x : List ℕ). sets x 5 (u16_bytes n ++ (u16_bytes t ++ u16_bytes r))) p
    ∙ sets-append none 1 (u32_bytes long) (u16_bytes n ++ (u16_bytes t ++ u16_bytes r))
    ∙ ap (λ (x : List ℕ). sets x 1 (u32_bytes long ++ (u16_bytes n ++ (u16_bytes t ++ u16_bytes r)))) o

-- The whole file: header, rule 0, and the rules behind it.
pub file-stored : (l one two three : List ℕ) (symbols tokens count a b c : ℕ) (rules : List Rule) → length rules ≡ count
    → one ≡ sets l 0 (1 ∷ (u32_bytes (header_bytes + rule_bytes * (count + 1)) ++ (u16_bytes symbols ++ (u16_bytes tokens ++ u16_bytes (count + 1)))))
    → two ≡ sets one header_bytes (bytes_of_rule (rule a b c)) → three ≡ sets two (header_bytes + rule_bytes) (flat bytes_of_rule rules)
    → three ≡ sets l 0 (bytes_of (record { symbols = symbols; tokens = tokens; rules = rule a b c ∷ rules }))
unfolding bytes_of header_of u32_bytes u16_bytes flat bytes_of_rule
file-stored l one two three symbols tokens count a b c rules e p q r =
    let is : suc (length rules) ≡ count + 1 = omega arith in
    r
    ∙ ap (λ (x : List ℕ). sets x (header_bytes + rule_bytes) (flat bytes_of_rule rules)) q
    ∙ sets-append one header_bytes (bytes_of_rule (rule a b c)) (flat bytes_of_rule rules)
    ∙ ap (λ (x : List ℕ). sets x header_bytes (flat bytes_of_rule (rule a b c ∷ rules))) p
    ∙ sets-append l 0 (1 ∷ (u32_bytes (header_bytes + rule_bytes * (count + 1)) ++ (u16_bytes symbols ++ (u16_bytes tokens ++ u16_bytes (count + 1))))) (flat bytes_of_rule (rule a b c ∷ rules))
    ∙ ap (λ (k : ℕ). sets l 0 ((1 ∷ (u32_bytes (header_bytes + rule_bytes * k) ++ (u16_bytes symbols ++ (u16_bytes tokens ++ u16_bytes k)))) ++ flat bytes_of_rule (rule a b c ∷ rules))) (sym is)

-- Six bytes for each of the rules.
pub rules-long : (rules : List Rule) (count : ℕ) → length rules ≡ count → length (flat bytes_of_rule rules) ≡ rule_bytes * count
rules-long rules count e = flat-length bytes_of_rule rule_bytes rule-long rules ∙ ap (λ (n : ℕ). rule_bytes * n) e
