-- `reports::text::put_line` meets its contract. Four numbers, each with what stands behind it.
use native.Mathlib.Omega.{arith}
use lib.ListN.{length-append}
use Rattle.reports.proofs.Putting.{put-length}
use Rattle.reports.proofs.Lines.{line-long, line-put}
use Rattle.reports.proofs.text.put_line.Goals as goal

pub put_number-first_at-requires : goal.put_number-first_at-requires
put_number-first_at-requires c =
    let required = c.requires in
    let long = line-long c.show-shown.ensures in
    omega (arith, required.1, long)

pub put_number-second_at-requires : goal.put_number-second_at-requires
put_number-second_at-requires c =
    let required = c.requires in
    let long = line-long c.show-shown.ensures in
    let left-put = c.put_number-first_at.ensures in
    omega (
      arith,
      required.1,
      long,
      simp length-append at left-put.ends,
      put-length left-put,
    )

pub put_number-origin_at-requires : goal.put_number-origin_at-requires
put_number-origin_at-requires c =
    let required = c.requires in
    let long = line-long c.show-shown.ensures in
    let left-put = c.put_number-first_at.ensures in
    let first-put = c.put_number-second_at.ensures in
    omega (
      arith,
      required.1,
      long,
      simp length-append at left-put.ends,
      put-length left-put,
      simp length-append at first-put.ends,
      put-length first-put,
    )

pub put_number-requires : goal.put_number-requires
put_number-requires c =
    let required = c.requires in
    let long = line-long c.show-shown.ensures in
    let left-put = c.put_number-first_at.ensures in
    let first-put = c.put_number-second_at.ensures in
    let second-put = c.put_number-origin_at.ensures in
    omega (
      arith,
      required.1,
      long,
      simp length-append at left-put.ends,
      put-length left-put,
      simp length-append at first-put.ends,
      put-length first-put,
      simp length-append at second-put.ends,
      put-length second-put,
    )

pub returns : goal.returns
returns c =
    let shown = c.show-shown in
    let left-put = c.put_number-first_at in
    let first-put = c.put_number-second_at in
    let second-put = c.put_number-origin_at in
    line-put shown.ensures left-put.ensures first-put.ensures second-put.ensures c.put_number.ensures
