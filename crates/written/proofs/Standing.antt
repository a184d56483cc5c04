-- What new symbols stand for: places in a list of beginnings, so that numbers are positions. And how many there are.
use mathlib.Core.Path.{◌≡◌, refl, sym, ap, ap₂, ◌∙◌}
use mathlib.Core.Bool.{Bool, true, false, ◌&&◌}
use mathlib.Core.List.{List, [], ◌∷◌, ◌++◌, append_assoc}
use Prim.Native.Nat.{ℕ, suc, ◌+◌, ◌*◌, ◌≤◌}
use native.Mathlib.Omega.{arith}
use lib.ListN.{length, get_or, length-append}
use lib.Seq.{get_or_at}
use Rattle.grammar.specs.Rules.{Rule, none}
use Rattle.written.specs.Split.{rule, given, pair, joined}
use Rattle.written.specs.Written.{WrittenRule, Written, symbol_count}
use Rattle.written.specs.Translation.{places, new_symbols, all_new, wrapper_of}
use Rattle.written.proofs.Numbers.{singles, singles_count}

-- The beginnings of the places behind `head`, the shortest first; all of them but the whole.
unfoldable pub beginnings : (head rest : List ℕ) → List (List ℕ)
beginnings head [] = []
beginnings head (x ∷ []) = []
beginnings head (x ∷ y ∷ rest) = (head ++ x ∷ []) ∷ beginnings (head ++ x ∷ []) (y ∷ rest)

-- New symbols and rules, counted.
pub few-new : (head rest : List ℕ) (x : ℕ) → suc (length (beginnings head (x ∷ rest))) ≡ length (x ∷ rest)
unfolding beginnings
few-new head [] x = refl
few-new head (y ∷ rest) x = ap suc (few-new (head ++ x ∷ []) rest y)

few-given : (b : Bool) (r : Rule) → length (given b (r ∷ [])) ≤ 1
unfolding given
few-given true r = omega arith
few-given false r = omega arith

few-pair : (a b c : ℕ) (d e : Bool) → length (pair a b c d e) ≤ 3
unfolding pair
few-pair a b c d e =
    let p = few-given e (rule a b none) in
    let q = few-given d (rule a c none) in
    omega (arith, length-append (given e (rule a b none ∷ [])) (given d (rule a c none ∷ [])))

pub few_rules : (new : ℕ → ℕ) (empty : ℕ → Bool) (a head : ℕ) (e : Bool) (rest : List ℕ) (n : ℕ) → length (joined new empty a head e rest n) ≤ 3 * length rest
unfolding joined
few_rules new empty a head e [] n = omega arith
few_rules new empty a head e (x ∷ []) n = omega (arith, few-pair a head (new x) e (empty x))
few_rules new empty a head e (x ∷ y ∷ rest) n =
    let p = few-pair n head (new x) e (empty x) in
    let q = few_rules new empty a n (e && empty x) (y ∷ rest) (suc n) in
    omega (arith, length-append (pair n head (new x) e (empty x)) (joined new empty a n (e && empty x) (y ∷ rest) (suc n)))

-- The beginnings of a rule's places, and of those of all rules.
unfoldable pub beginnings_of : List ℕ → List (List ℕ)
beginnings_of [] = []
beginnings_of (x ∷ rest) = beginnings (x ∷ []) rest

unfoldable pub all_beginnings : (keep : ℕ → Bool) → List WrittenRule → List (List ℕ)
all_beginnings keep [] = []
all_beginnings keep (r ∷ rules) = beginnings_of (places keep r.right) ++ all_beginnings keep rules

-- As many as there are new symbols.
pub of_count : (l : List ℕ) → length (beginnings_of l) ≡ new_symbols l
unfolding beginnings_of beginnings
of_count [] = omega arith
of_count (x ∷ []) = omega arith
of_count (x ∷ y ∷ rest) = let h = few-new (x ∷ []) rest y in omega arith

pub all-count : (keep : ℕ → Bool) (rules : List WrittenRule) → length (all_beginnings keep rules) ≡ all_new keep rules
unfolding all_beginnings all_new
all-count keep [] = refl
all-count keep (r ∷ rules) =
    length-append (beginnings_of (places keep r.right)) (all_beginnings keep rules) ∙ ap₂ ◌+◌ (of_count (places keep r.right)) (all-count keep rules)

-- What each symbol of the file stands for: tokens and nonterminals that stay for themselves, new symbols for their beginnings, W for S. The place
-- in this list is the number.
abbrev pub meanings : (w : Written) (keep : ℕ → Bool) → List (List ℕ)
meanings w keep = singles keep (symbol_count w) ++ (all_beginnings keep w.rules ++ (w.start ∷ []) ∷ [])

pub meanings_count : (w : Written) (keep : ℕ → Bool) → length (meanings w keep) ≡ wrapper_of w keep + 1
meanings_count w keep =
    let one = length-append (singles keep (symbol_count w)) (all_beginnings keep w.rules ++ (w.start ∷ []) ∷ []) in
    let two = length-append (all_beginnings keep w.rules) ((w.start ∷ []) ∷ []) in
    let three = singles_count keep (symbol_count w) in
    let four = all-count keep w.rules in
    omega arith

-- W stands for S.
pub wrapper-stands : (w : Written) (keep : ℕ → Bool) → get_or (meanings w keep) (wrapper_of w keep) [] ≡ w.start ∷ []
wrapper-stands w keep =
    ap (λ (l : List (List ℕ)). get_or l (wrapper_of w keep) []) (sym (append_assoc (singles keep (symbol_count w)) (all_beginnings keep w.rules) ((w.start ∷ []) ∷ [])))
    ∙ get_or_at (singles keep (symbol_count w) ++ all_beginnings keep w.rules) (w.start ∷ []) [] [] (wrapper_of w keep)
    (length-append (singles keep (symbol_count w)) (all_beginnings keep w.rules) ∙ ap₂ ◌+◌ (singles_count keep (symbol_count w)) (all-count keep w.rules))
