use Rattle.std.proofs.Common.{◌≡◌, true, false, length, refl, sym, ◌∙◌, arith}
use Rattle.std.specs.Prelude.{nat_lt}
use Rattle.std.proofs.lemmas.Bool.{le-ltb, lt-ltb}
use Rattle.causal_base.specs.Journal.{came_by, delivered_by}
use Rattle.poet_serve.specs.Collecting.{Told, told_by}
use Rattle.run_text.specs.Runs.{is_full, is_line, is_read}
use Rattle.run_text.proofs.Statuses.{some_seen}
use Rattle.run_text.proofs.status.status_of_run.Goals as goal

pub returns-then-any_read : goal.returns-then-any_read
returns-then-any_read g c scripts last =
    let run = c.args.run.now in
    let any_read_is = some_seen (λ (one : Told). is_read one.stop) told_by run.collectors c.as_slice-collectors.result.now c.any_read.result true c.as_slice-collectors.ensures c.any_read.ensures c.if-any_read.true in
    rw any_read_is refl

pub returns-then-any_line : goal.returns-then-any_line
returns-then-any_line g c scripts last =
    let run = c.args.run.now in
    let any_read_is = some_seen (λ (one : Told). is_read one.stop) told_by run.collectors c.as_slice-collectors.result.now c.any_read.result false c.as_slice-collectors.ensures c.any_read.ensures c.if-any_read.false in
    let any_line_is = some_seen (λ (one : Told). is_line one.stop) told_by run.collectors c.as_slice-collectors.result.now c.any_line.result true c.as_slice-collectors.ensures c.any_line.ensures c.if-any_line.true in
    rw (any_read_is, any_line_is) refl

pub returns-then-any_full : goal.returns-then-any_full
returns-then-any_full g c scripts last =
    let run = c.args.run.now in
    let any_read_is = some_seen (λ (one : Told). is_read one.stop) told_by run.collectors c.as_slice-collectors.result.now c.any_read.result false c.as_slice-collectors.ensures c.any_read.ensures c.if-any_read.false in
    let any_line_is = some_seen (λ (one : Told). is_line one.stop) told_by run.collectors c.as_slice-collectors.result.now c.any_line.result false c.as_slice-collectors.ensures c.any_line.ensures c.if-any_line.false in
    let any_full_is = some_seen (λ (one : Told). is_full one.stop) told_by run.collectors c.as_slice-collectors.result.now c.any_full.result true c.as_slice-collectors.ensures c.any_full.ensures c.if-any_full.true in
    rw (any_read_is, any_line_is, any_full_is) refl

pub returns-then-lacked_memory : goal.returns-then-lacked_memory
returns-then-lacked_memory g c scripts last =
    let run = c.args.run.now in
    let any_read_is = some_seen (λ (one : Told). is_read one.stop) told_by run.collectors c.as_slice-collectors.result.now c.any_read.result false c.as_slice-collectors.ensures c.any_read.ensures c.if-any_read.false in
    let any_line_is = some_seen (λ (one : Told). is_line one.stop) told_by run.collectors c.as_slice-collectors.result.now c.any_line.result false c.as_slice-collectors.ensures c.any_line.ensures c.if-any_line.false in
    let any_full_is = some_seen (λ (one : Told). is_full one.stop) told_by run.collectors c.as_slice-collectors.result.now c.any_full.result false c.as_slice-collectors.ensures c.any_full.ensures c.if-any_full.false in
    let lacked_memory_is = sym (c.lacked_memory.ensures scripts last) ∙ c.if-lacked_memory.true in
    rw (any_read_is, any_line_is, any_full_is, lacked_memory_is) refl

pub returns-then-any_clash : goal.returns-then-any_clash
returns-then-any_clash g c scripts last =
    let run = c.args.run.now in
    let any_read_is = some_seen (λ (one : Told). is_read one.stop) told_by run.collectors c.as_slice-collectors.result.now c.any_read.result false c.as_slice-collectors.ensures c.any_read.ensures c.if-any_read.false in
    let any_line_is = some_seen (λ (one : Told). is_line one.stop) told_by run.collectors c.as_slice-collectors.result.now c.any_line.result false c.as_slice-collectors.ensures c.any_line.ensures c.if-any_line.false in
    let any_full_is = some_seen (λ (one : Told). is_full one.stop) told_by run.collectors c.as_slice-collectors.result.now c.any_full.result false c.as_slice-collectors.ensures c.any_full.ensures c.if-any_full.false in
    let lacked_memory_is = sym (c.lacked_memory.ensures scripts last) ∙ c.if-lacked_memory.false in
    let any_clash_is = some_seen (λ (one : Told). nat_lt 0 one.clashes) told_by run.collectors c.as_slice-collectors.result.now c.any_clash.result true c.as_slice-collectors.ensures c.any_clash.ensures c.if-any_clash.true in
    rw (any_read_is, any_line_is, any_full_is, lacked_memory_is, any_clash_is) refl

pub returns-then-count_delivered-count_accepted : goal.returns-then-count_delivered-count_accepted
returns-then-count_delivered-count_accepted g c scripts last =
    let run = c.args.run.now in
    let any_read_is = some_seen (λ (one : Told). is_read one.stop) told_by run.collectors c.as_slice-collectors.result.now c.any_read.result false c.as_slice-collectors.ensures c.any_read.ensures c.if-any_read.false in
    let any_line_is = some_seen (λ (one : Told). is_line one.stop) told_by run.collectors c.as_slice-collectors.result.now c.any_line.result false c.as_slice-collectors.ensures c.any_line.ensures c.if-any_line.false in
    let any_full_is = some_seen (λ (one : Told). is_full one.stop) told_by run.collectors c.as_slice-collectors.result.now c.any_full.result false c.as_slice-collectors.ensures c.any_full.ensures c.if-any_full.false in
    let lacked_memory_is = sym (c.lacked_memory.ensures scripts last) ∙ c.if-lacked_memory.false in
    let any_clash_is = some_seen (λ (one : Told). nat_lt 0 one.clashes) told_by run.collectors c.as_slice-collectors.result.now c.any_clash.result false c.as_slice-collectors.ensures c.any_clash.ensures c.if-any_clash.false in
    let held : nat_lt (length (delivered_by run.desk.journal)) (length (came_by run.desk.journal)) ≡ true = lt-ltb (length (delivered_by run.desk.journal)) (length (came_by run.desk.journal)) (omega (arith, c.count_delivered.ensures, c.count_accepted.ensures, c.if-count_delivered-count_accepted.true)) in
    rw (any_read_is, any_line_is, any_full_is, lacked_memory_is, any_clash_is, held) refl

pub returns-else-count_delivered-count_accepted : goal.returns-else-count_delivered-count_accepted
returns-else-count_delivered-count_accepted g c scripts last =
    let run = c.args.run.now in
    let any_read_is = some_seen (λ (one : Told). is_read one.stop) told_by run.collectors c.as_slice-collectors.result.now c.any_read.result false c.as_slice-collectors.ensures c.any_read.ensures c.if-any_read.false in
    let any_line_is = some_seen (λ (one : Told). is_line one.stop) told_by run.collectors c.as_slice-collectors.result.now c.any_line.result false c.as_slice-collectors.ensures c.any_line.ensures c.if-any_line.false in
    let any_full_is = some_seen (λ (one : Told). is_full one.stop) told_by run.collectors c.as_slice-collectors.result.now c.any_full.result false c.as_slice-collectors.ensures c.any_full.ensures c.if-any_full.false in
    let lacked_memory_is = sym (c.lacked_memory.ensures scripts last) ∙ c.if-lacked_memory.false in
    let any_clash_is = some_seen (λ (one : Told). nat_lt 0 one.clashes) told_by run.collectors c.as_slice-collectors.result.now c.any_clash.result false c.as_slice-collectors.ensures c.any_clash.ensures c.if-any_clash.false in
    let held : nat_lt (length (delivered_by run.desk.journal)) (length (came_by run.desk.journal)) ≡ false = le-ltb (length (delivered_by run.desk.journal)) (length (came_by run.desk.journal)) (omega (arith, c.count_delivered.ensures, c.count_accepted.ensures, c.if-count_delivered-count_accepted.false)) in
    rw (any_read_is, any_line_is, any_full_is, lacked_memory_is, any_clash_is, held) refl
