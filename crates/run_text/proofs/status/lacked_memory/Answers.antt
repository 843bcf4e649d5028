use Rattle.std.proofs.Common.{true, sym, ◌∙◌}
use Rattle.std.specs.Prelude.{◌||◌}
use Rattle.std.specs.List.{list_any}
use Rattle.poet_serve.specs.declared.report.ClientReport.{ClientReport}
use Rattle.poet_serve.specs.Collecting.{Told, told_by}
use Rattle.run_text.specs.Runs.{is_memory}
use Rattle.run_text.proofs.Statuses.{by_first, by_second, some_item, some_seen}
use Rattle.run_text.proofs.status.lacked_memory.Goals as goal
use Rattle.run_text.proofs.status.lacked_memory.Goals.{then-any_memory, else-any_memory}

pub returns-then-any_client_memory : goal.returns-then-any_client_memory
returns-then-any_client_memory g c scripts last =
    let run = c.args.run.now in
    let clients = list_any (λ (client : ClientReport). client.memory) run.clients in
    let other = clients || run.closing.memory in
    c.if-any_client_memory.true ∙ sym (elim c.if-any_memory.branch [
      | then-any_memory w ↦ by_first _ other (some_seen (λ (one : Told). is_memory one.stop) told_by run.collectors c.as_slice.result.now c.any_memory.result true c.as_slice.ensures c.any_memory.ensures w.if-any_memory.true)
      | else-any_memory w ↦
          by_second _ other (some_seen (λ (one : Told). is_memory one.stop) told_by run.collectors c.as_slice.result.now c.any_memory.result _ c.as_slice.ensures c.any_memory.ensures w.if-any_memory.false)
          ∙ by_first clients run.closing.memory (some_item (λ (client : ClientReport). client.memory) run.clients w.as_slice-else-any_memory.result.now w.any_client_memory.result true w.as_slice-else-any_memory.ensures w.any_client_memory.ensures (sym w.value-is ∙ c.if-any_client_memory.true))
    ])

pub returns-else-any_client_memory : goal.returns-else-any_client_memory
returns-else-any_client_memory g c scripts last =
    let run = c.args.run.now in
    let clients = list_any (λ (client : ClientReport). client.memory) run.clients in
    let other = clients || run.closing.memory in
    sym (elim c.if-any_memory.branch [
      | then-any_memory w ↦ absurd (let yes = sym w.value-is ∙ c.if-any_client_memory.false in cc)
      | else-any_memory w ↦
          by_second _ other (some_seen (λ (one : Told). is_memory one.stop) told_by run.collectors c.as_slice.result.now c.any_memory.result _ c.as_slice.ensures c.any_memory.ensures w.if-any_memory.false)
          ∙ by_second clients run.closing.memory (some_item (λ (client : ClientReport). client.memory) run.clients w.as_slice-else-any_memory.result.now w.any_client_memory.result _ w.as_slice-else-any_memory.ensures w.any_client_memory.ensures (sym w.value-is ∙ c.if-any_client_memory.false))
    ])
