-- Document 01's number and values, and the place of a refusal, determine the answer: two results that meet a promise agree.
use Rattle.std.proofs.Common.{◌≡◌, refl, sym, ap, ◌∙◌, List, ℕ, Option, Some, None, Result, Ok, Err}
use Rattle.node.specs.Answers.{written, found, stopped, walked}
use Rattle.node.specs.Writing.{StoreOutcome}
use Rattle.node.specs.declared.Node.{Node}
use Rattle.node.specs.declared.Unwritten.{Unwritten}
use Rattle.node.specs.declared.Unwritten.TheVariants.{Unfit, NoRoom}
use Rattle.node.specs.declared.NoNode.{NoNode}
use Rattle.node.specs.declared.Walked.{Walked}

pub writes_agree : (a b : Result ℕ Unwritten) → written a ≡ written b → a ≡ b
writes_agree (Ok p) (Ok q) e = let h : p ≡ q = cc in ap Ok h
writes_agree (Ok p) (Err (Unfit q)) e = cc
writes_agree (Ok p) (Err (NoRoom q)) e = cc
writes_agree (Err (Unfit p)) (Ok q) e = cc
writes_agree (Err (Unfit p)) (Err (Unfit q)) e = let h : p ≡ q = cc in ap (λ x. Err (Unfit x)) h
writes_agree (Err (Unfit p)) (Err (NoRoom q)) e = cc
writes_agree (Err (NoRoom p)) (Ok q) e = cc
writes_agree (Err (NoRoom p)) (Err (Unfit q)) e = cc
writes_agree (Err (NoRoom p)) (Err (NoRoom q)) e = let h : p ≡ q = cc in ap (λ x. Err (NoRoom x)) h

abbrev fault : ℕ → NoNode
fault unit = record { 0 = unit }

pub reads_agree : (a b : Result (Option (Node × ℕ)) NoNode) → found a ≡ found b → a ≡ b
reads_agree (Ok (Some n)) (Ok (Some m)) e =
    let h : n.0 ≡ m.0 = cc in
    let k : n.1 ≡ m.1 = cc in
    ap (λ x. Ok (Some (x, n.1))) h ∙ ap (λ x. Ok (Some (m.0, x))) k
reads_agree (Ok (Some n)) (Ok None) e = cc
reads_agree (Ok (Some n)) (Err v) e = cc
reads_agree (Ok None) (Ok (Some m)) e = cc
reads_agree (Ok None) (Ok None) e = refl
reads_agree (Ok None) (Err v) e = cc
reads_agree (Err u) (Ok (Some m)) e = cc
reads_agree (Err u) (Ok None) e = cc
reads_agree (Err u) (Err v) e = let h : u.0 ≡ v.0 = cc in ap (λ x. Err (fault x)) h

pub walks_agree : (a b : Walked) → walked a ≡ walked b → a ≡ b
walks_agree a b e = on a.fault b.fault refl refl
  where
    parts : a.count ≡ b.count → a.behind ≡ b.behind → a.fault ≡ b.fault → a ≡ b
    parts c p f =
        ap (λ x. record { count = x; behind = a.behind; fault = a.fault }) c
        ∙ ap (λ x. record { count = b.count; behind = x; fault = a.fault }) p
        ∙ ap (λ x. record { count = b.count; behind = b.behind; fault = x }) f

    on : (f g : Option ℕ) → a.fault ≡ f → b.fault ≡ g → a ≡ b
    on None None is also =
        let same : stopped a.count a.behind None ≡ stopped b.count b.behind None =
        ap (stopped a.count a.behind) (sym is) ∙ e ∙ ap (stopped b.count b.behind) also in
        let c : a.count ≡ b.count = cc in
        let p : a.behind ≡ b.behind = cc in
        parts c p (is ∙ sym also)
    on None (Some v) is also =
        let same : stopped a.count a.behind None ≡ stopped b.count b.behind (Some v) =
        ap (stopped a.count a.behind) (sym is) ∙ e ∙ ap (stopped b.count b.behind) also in cc
    on (Some u) None is also =
        let same : stopped a.count a.behind (Some u) ≡ stopped b.count b.behind None =
        ap (stopped a.count a.behind) (sym is) ∙ e ∙ ap (stopped b.count b.behind) also in cc
    on (Some u) (Some v) is also =
        let same : stopped a.count a.behind (Some u) ≡ stopped b.count b.behind (Some v) =
        ap (stopped a.count a.behind) (sym is) ∙ e ∙ ap (stopped b.count b.behind) also in
        let unit : u ≡ v = cc in
        let c : a.count ≡ b.count = cc in
        let p : a.behind ≡ b.behind = cc in
        parts c p (is ∙ ap Some unit ∙ sym also)

-- Two outcomes of a write that are what its definition gives have one answer and leave one store.
pub record Settled (a b : Result ℕ Unwritten) (s t : List ℕ) : Type 0 where
  pub answers : a ≡ b
  pub stores : s ≡ t

pub writes-settled :
    (a b : Result ℕ Unwritten) (s t : List ℕ) (o : StoreOutcome) → record { answer = written a; store = s } ≡ o
    → record { answer = written b; store = t } ≡ o
    → Settled a b s t
writes-settled a b s t o first second =
    let same : ◌≡◌ {A = StoreOutcome} (record { answer = written a; store = s }) (record { answer = written b; store = t }) = first
    ∙ sym second in
    record { answers = writes_agree a b (ap (λ x. x.answer) same); stores = ap (λ x. x.store) same }
