-- `advance::advance` meets its contract.
use Rattle.std.proofs.Common.{arith}
use Rattle.advance.proofs.Advancing.{reach_asks, clear_asks, reaches, refuses, next_asks, advances}
use Rattle.advance.proofs.advance.Goals as goal

pub greatest_origin-m-requires : goal.greatest_origin-m-requires
greatest_origin-m-requires c =
    let required = c.requires in
    let items-made = c.new_items-end in
    reach_asks _ _ _ _ _ _ required _ _ items-made.ensures.end items-made.ensures.words

pub last_kept-requires : goal.last_kept-requires
last_kept-requires c =
    let required = c.requires in
    let items-made = c.new_items-end in
    reaches _ _ _ _ _ _ required _ _ items-made.ensures.end items-made.ensures.words _ c.greatest_origin-m.ensures

pub overflow_mul-end : goal.overflow_mul-end
overflow_mul-end c =
    let required = c.requires in
    let items-made = c.new_items-end in
    omega (
      arith,
      (clear_asks _ _ _ _ _ _ required _ _ items-made.ensures.end items-made.ensures.words).1,
    )

pub clear-requires : goal.clear-requires
clear-requires c =
    let required = c.requires in
    let items-made = c.new_items-end in
    clear_asks _ _ _ _ _ _ required _ _ items-made.ensures.end items-made.ensures.words

pub returns-then-last_kept-rows : goal.returns-then-last_kept-rows
returns-then-last_kept-rows c =
    let required = c.requires in
    let items-made = c.new_items-end in
    let origin-found = c.greatest_origin-m in
    refuses _ _ _ _ _ _ required _ _ items-made.ensures.end items-made.ensures.words _
    origin-found.ensures _ c.last_kept.ensures
    c.if-last_kept-rows.true c.clear.ensures

pub next_set-requires : goal.next_set-requires
next_set-requires c =
    let required = c.requires in
    let items-made = c.new_items-end in
    next_asks _ _ _ _ _ _ required _ _ items-made.ensures.end items-made.ensures.words _
    c.greatest_origin-m.ensures _ c.last_kept.ensures
    c.if-last_kept-rows.false

pub returns : goal.returns
returns c =
    let required = c.requires in
    let items-made = c.new_items-end in
    let origin-found = c.greatest_origin-m in
    let kept-found = c.last_kept in
    let room-tested = c.if-last_kept-rows in
    let set-made = c.next_set in
    advances _ _ _ _ _ _ required _ _ items-made.ensures.end items-made.ensures.words _ origin-found.ensures _
    kept-found.ensures room-tested.false set-made.ensures
