use Rattle.std.proofs.Common.{◌<◌, length, sym, ◌∙◌, ap, arith}
use Rattle.std.proofs.lemmas.List.{length-map}
use Rattle.trace_queue.specs.Held.{HeldValues, held_at, count_held}
use Rattle.trace_queue.proofs.Sets.{on_err, unchanged, updated}
use Rattle.trace_queue.proofs.queues.Queues.hold.Goals as goal

pub invariant_of-self : goal.invariant_of-self
invariant_of-self g c =
    let queues = c.self.inside.queues.items in
    let inside : c.args.id.trace < length queues = (let all = length-map queues (λ queue. queue.entries) in let view = ap (λ (h : HeldValues g.row.T.Denot). length h) c.self.view_is in omega (arith, all, view, c.requires.trace)) in
    c.self.invariant ∙ ap count_held (sym (unchanged (λ queue. queue.entries) queues c.args.id c.index_mut.result.now c.insert_new.new.queue inside (sym c.index_mut.ensures.value) c.in_err-insert_new.ensures.err))

pub returns-in_err-insert_new-clause-err : goal.returns-in_err-insert_new-clause-err
returns-in_err-insert_new-clause-err g c =
    let queues = c.self.inside.queues.items in
    let inside : c.args.id.trace < length queues = (let all = length-map queues (λ queue. queue.entries) in let view = ap (λ (h : HeldValues g.row.T.Denot). length h) c.self.view_is in omega (arith, all, view, c.requires.trace)) in
    on_err c.from_residual.result (unchanged (λ queue. queue.entries) queues c.args.id c.index_mut.result.now c.insert_new.new.queue inside (sym c.index_mut.ensures.value) c.in_err-insert_new.ensures.err ∙ c.self.view_is)

pub invariant_of-self-2 : goal.invariant_of-self-2
invariant_of-self-2 g c =
    let queues = c.self.inside.queues.items in
    let inside : c.args.id.trace < length queues = (let all = length-map queues (λ queue. queue.entries) in let view = ap (λ (h : HeldValues g.row.T.Denot). length h) c.self.view_is in omega (arith, all, view, c.requires.trace)) in
    let is = updated (λ queue. queue.entries) queues c.args.id c.index_mut.result.now c.insert_new.new.queue inside (sym c.index_mut.ensures.value) 0 1 c.in_ok-insert_new.ensures.others (let more = c.in_ok-insert_new.ensures.more in omega (arith, more)) in
    omega (arith, is.count, c.self.invariant)

pub returns-clause-ok : goal.returns-clause-ok
returns-clause-ok g c =
    let queues = c.self.inside.queues.items in
    let inside : c.args.id.trace < length queues = (let all = length-map queues (λ queue. queue.entries) in let view = ap (λ (h : HeldValues g.row.T.Denot). length h) c.self.view_is in omega (arith, all, view, c.requires.trace)) in
    let is = updated (λ queue. queue.entries) queues c.args.id c.index_mut.result.now c.insert_new.new.queue inside (sym c.index_mut.ensures.value) 0 1 c.in_ok-insert_new.ensures.others (let more = c.in_ok-insert_new.ensures.more in omega (arith, more)) in
    is.has_is ∙ c.in_ok-insert_new.ensures.ok

pub returns-clause-others : goal.returns-clause-others
returns-clause-others g c =
    let queues = c.self.inside.queues.items in
    let inside : c.args.id.trace < length queues = (let all = length-map queues (λ queue. queue.entries) in let view = ap (λ (h : HeldValues g.row.T.Denot). length h) c.self.view_is in omega (arith, all, view, c.requires.trace)) in
    let is = updated (λ queue. queue.entries) queues c.args.id c.index_mut.result.now c.insert_new.new.queue inside (sym c.index_mut.ensures.value) 0 1 c.in_ok-insert_new.ensures.others (let more = c.in_ok-insert_new.ensures.more in omega (arith, more)) in
    λ other ne. is.others other ne ∙ ap (λ (h : HeldValues g.row.T.Denot). held_at h other) c.self.view_is

pub returns-clause-more : goal.returns-clause-more
returns-clause-more g c =
    let queues = c.self.inside.queues.items in
    let inside : c.args.id.trace < length queues = (let all = length-map queues (λ queue. queue.entries) in let view = ap (λ (h : HeldValues g.row.T.Denot). length h) c.self.view_is in omega (arith, all, view, c.requires.trace)) in
    let is = updated (λ queue. queue.entries) queues c.args.id c.index_mut.result.now c.insert_new.new.queue inside (sym c.index_mut.ensures.value) 0 1 c.in_ok-insert_new.ensures.others (let more = c.in_ok-insert_new.ensures.more in omega (arith, more)) in
    let view = ap (λ (h : HeldValues g.row.T.Denot). count_held h) c.self.view_is in
    omega (arith, is.count, view)
