use Rattle.std.proofs.Common.{rules, refl, sym, ◌∙◌, ap, append-nil, vec_capacity}
use Rattle.std.proofs.lemmas.List.{take_all, take_more}
use Rattle.causal_base.specs.declared.event_id.EventId.{EventId}
use Rattle.poet_serve.specs.declared.limits.TheConstants.{MOST_CLASHES_NAMED}
use Rattle.poet_serve.proofs.Counted.{named_next, named_enough}
use Rattle.poet_serve.proofs.tally.name_clashes.Goals as goal
use Rattle.poet_serve.proofs.tally.name_clashes.Goals.{then-len-lt-MOST_CLASHES_NAMED, else-len-lt-MOST_CLASHES_NAMED}

pub loop-id-init : goal.loop-id-init
loop-id-init c = record {
  items = sym (rw (append-nil c.args.first.now.items) (take_all MOST_CLASHES_NAMED c.args.first.now.items c.requires.few));
  room = refl;
}

none : EventId
none = record { trace = 0; number = 0 }

pub loop-id-preserved : goal.loop-id-preserved
loop-id-preserved c = elim c.if-len-lt-MOST_CLASHES_NAMED.branch [
  | then-len-lt-MOST_CLASHES_NAMED w ↦ record {
    items = ap (λ v. v.items) w.first-is ∙ (w.push_reserved.ensures.items ∙ named_next c.args.first.now.items c.args.clashes.now c.loop-id.id-index _ c.loop-id.first.items (take_more c.args.clashes.now c.loop-id.id-index _ c.loop-id-test.true) c.loop-id.invariant.items (search rules));
    room = search rules;
  }
  | else-len-lt-MOST_CLASHES_NAMED w ↦ record {
    items = ap (λ v. v.items) w.first-is ∙ named_enough c.args.first.now.items c.args.clashes.now c.loop-id.id-index _ c.loop-id.first.items (take_more c.args.clashes.now c.loop-id.id-index none c.loop-id-test.true) c.loop-id.invariant.items (search rules);
    room = ap (λ v. vec_capacity v) w.first-is ∙ c.loop-id.invariant.room;
  }
]
