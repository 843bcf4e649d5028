use Rattle.std.proofs.Common.{◌<◌, length, sym, ◌∙◌, ap, arith}
use Rattle.std.specs.Option.{option_to_list}
use Rattle.std.proofs.lemmas.List.{length-map}
use Rattle.trace_queue.specs.Held.{HeldValues, held_at, count_held}
use Rattle.trace_queue.proofs.Sets.{one_if_some, updated}
use Rattle.trace_queue.proofs.queues.Queues.take.Goals as goal

pub overflow_sub-self : goal.overflow_sub-self
overflow_sub-self g c =
    let queues = c.self.inside.queues.items in
    let inside : c.args.id.trace < length queues = (let all = length-map queues (λ queue. queue.entries) in let view = ap (λ (h : HeldValues g.row.T.Denot). length h) c.self.view_is in omega (arith, all, view, c.requires)) in
    let one = one_if_some c.remove-value.result in
    let is = updated (λ queue. queue.entries) queues c.args.id c.index_mut.result.now c.remove-value.new.self inside (sym c.index_mut.ensures.value) (length (option_to_list c.remove-value.result)) 0 c.remove-value.ensures.updates.2 (let len = c.remove-value.ensures.len in omega (arith, len, one)) in
    omega (arith, is.count, c.self.invariant, one, c.number_of.ensures)

pub invariant_of-self : goal.invariant_of-self
invariant_of-self g c =
    let queues = c.self.inside.queues.items in
    let inside : c.args.id.trace < length queues = (let all = length-map queues (λ queue. queue.entries) in let view = ap (λ (h : HeldValues g.row.T.Denot). length h) c.self.view_is in omega (arith, all, view, c.requires)) in
    let one = one_if_some c.remove-value.result in
    let is = updated (λ queue. queue.entries) queues c.args.id c.index_mut.result.now c.remove-value.new.self inside (sym c.index_mut.ensures.value) (length (option_to_list c.remove-value.result)) 0 c.remove-value.ensures.updates.2 (let len = c.remove-value.ensures.len in omega (arith, len, one)) in
    omega (arith, is.count, c.self.invariant, one, c.number_of.ensures)

pub returns-clause-value : goal.returns-clause-value
returns-clause-value g c =
    let queues = c.self.inside.queues.items in
    let inside : c.args.id.trace < length queues = (let all = length-map queues (λ queue. queue.entries) in let view = ap (λ (h : HeldValues g.row.T.Denot). length h) c.self.view_is in omega (arith, all, view, c.requires)) in
    let one = one_if_some c.remove-value.result in
    let is = updated (λ queue. queue.entries) queues c.args.id c.index_mut.result.now c.remove-value.new.self inside (sym c.index_mut.ensures.value) (length (option_to_list c.remove-value.result)) 0 c.remove-value.ensures.updates.2 (let len = c.remove-value.ensures.len in omega (arith, len, one)) in
    c.remove-value.ensures.value ∙ (sym is.had_is ∙ ap (λ (h : HeldValues g.row.T.Denot). held_at h c.args.id) c.self.view_is)

pub returns-clause-gone : goal.returns-clause-gone
returns-clause-gone g c =
    let queues = c.self.inside.queues.items in
    let inside : c.args.id.trace < length queues = (let all = length-map queues (λ queue. queue.entries) in let view = ap (λ (h : HeldValues g.row.T.Denot). length h) c.self.view_is in omega (arith, all, view, c.requires)) in
    let one = one_if_some c.remove-value.result in
    let is = updated (λ queue. queue.entries) queues c.args.id c.index_mut.result.now c.remove-value.new.self inside (sym c.index_mut.ensures.value) (length (option_to_list c.remove-value.result)) 0 c.remove-value.ensures.updates.2 (let len = c.remove-value.ensures.len in omega (arith, len, one)) in
    is.has_is ∙ c.remove-value.ensures.updates.1

pub returns-clause-others : goal.returns-clause-others
returns-clause-others g c =
    let queues = c.self.inside.queues.items in
    let inside : c.args.id.trace < length queues = (let all = length-map queues (λ queue. queue.entries) in let view = ap (λ (h : HeldValues g.row.T.Denot). length h) c.self.view_is in omega (arith, all, view, c.requires)) in
    let one = one_if_some c.remove-value.result in
    let is = updated (λ queue. queue.entries) queues c.args.id c.index_mut.result.now c.remove-value.new.self inside (sym c.index_mut.ensures.value) (length (option_to_list c.remove-value.result)) 0 c.remove-value.ensures.updates.2 (let len = c.remove-value.ensures.len in omega (arith, len, one)) in
    λ other ne. is.others other ne ∙ ap (λ (h : HeldValues g.row.T.Denot). held_at h other) c.self.view_is

pub returns-clause-fewer : goal.returns-clause-fewer
returns-clause-fewer g c =
    let queues = c.self.inside.queues.items in
    let inside : c.args.id.trace < length queues = (let all = length-map queues (λ queue. queue.entries) in let view = ap (λ (h : HeldValues g.row.T.Denot). length h) c.self.view_is in omega (arith, all, view, c.requires)) in
    let one = one_if_some c.remove-value.result in
    let is = updated (λ queue. queue.entries) queues c.args.id c.index_mut.result.now c.remove-value.new.self inside (sym c.index_mut.ensures.value) (length (option_to_list c.remove-value.result)) 0 c.remove-value.ensures.updates.2 (let len = c.remove-value.ensures.len in omega (arith, len, one)) in
    let view = ap (λ (h : HeldValues g.row.T.Denot). count_held h) c.self.view_is in
    omega (arith, is.count, view)
