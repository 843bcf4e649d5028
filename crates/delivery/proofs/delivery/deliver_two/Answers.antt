use Rattle.std.proofs.Common.{◌≡◌, ◌≢◌, ◌⊎◌, reverse, inl, inr, sym, ◌∙◌, ap, subst, arith}
use Rattle.std.specs.Prelude.{Contains}
use Rattle.causal_base.specs.declared.entry.Entry.TheVariants.{Pair}
use Rattle.causal_base.specs.declared.event_id.EventId.{EventId}
use Rattle.causal_base.specs.Past.{came, deliveries, HasTrace}
use Rattle.causal_base.proofs.CallerLemmas.{reverse-push}
use Rattle.partner_match.specs.Waiting.{waiting_for}
use Rattle.delivery.proofs.Looks.{AreLooked, looked_both}
use Rattle.delivery.proofs.Moves.{basis_two, below_two, fewer_two, lower_two, parts_two}
use Rattle.delivery.proofs.delivery.deliver_two.Goals as goal

pub push_pair-requires-clause-first_trace : goal.push_pair-requires-clause-first_trace
push_pair-requires-clause-first_trace c =
    lower_two c.args.types.now (reverse c.args.journal.now) c.args.waiting.now c.args.ready.now c.requires.parts c.args.first c.args.second c.requires.next.enabled

pub push_pair-requires-clause-second_trace : goal.push_pair-requires-clause-second_trace
push_pair-requires-clause-second_trace c =
    let below = below_two c.args.types.now (reverse c.args.journal.now) c.args.waiting.now c.args.ready.now c.requires.parts c.args.first c.args.second c.requires.next.enabled in
    omega (arith, below, c.requires.parts.table.most_traces)

pub push_pair-requires-clause-fewer : goal.push_pair-requires-clause-fewer
push_pair-requires-clause-fewer c =
    fewer_two c.args.types.now (reverse c.args.journal.now) c.args.waiting.now c.args.ready.now c.requires.parts c.args.first c.args.second c.requires.next.enabled

pub remove-requires : goal.remove-requires
remove-requires c =
    let below = below_two c.args.types.now (reverse c.args.journal.now) c.args.waiting.now c.args.ready.now c.requires.parts c.args.first c.args.second c.requires.next.enabled in
    let lower = lower_two c.args.types.now (reverse c.args.journal.now) c.args.waiting.now c.args.ready.now c.requires.parts c.args.first c.args.second c.requires.next.enabled in
    omega (arith, below, lower, c.requires.parts.table.most_traces)

pub look-requires : goal.look-requires
look-requires c =
    basis_two c.args.types.now (reverse c.args.journal.now) c.args.waiting.now c.args.ready.now c.requires.parts c.args.first c.args.second c.requires.next.enabled (reverse c.push_pair.new.self)
    (ap reverse c.push_pair.ensures ∙ reverse-push c.args.journal.now (Pair c.args.first c.args.second))

pub look-requires-2 : goal.look-requires-2
look-requires-2 c =
    basis_two c.args.types.now (reverse c.args.journal.now) c.args.waiting.now c.args.ready.now c.requires.parts c.args.first c.args.second c.requires.next.enabled (reverse c.push_pair.new.self)
    (ap reverse c.push_pair.ensures ∙ reverse-push c.args.journal.now (Pair c.args.first c.args.second))

pub wake-requires : goal.wake-requires
wake-requires c =
    basis_two c.args.types.now (reverse c.args.journal.now) c.args.waiting.now c.args.ready.now c.requires.parts c.args.first c.args.second c.requires.next.enabled (reverse c.push_pair.new.self)
    (ap reverse c.push_pair.ensures ∙ reverse-push c.args.journal.now (Pair c.args.first c.args.second))

pub wake-requires-2 : goal.wake-requires-2
wake-requires-2 c =
    basis_two c.args.types.now (reverse c.args.journal.now) c.args.waiting.now c.args.ready.now c.requires.parts c.args.first c.args.second c.requires.next.enabled (reverse c.push_pair.new.self)
    (ap reverse c.push_pair.ensures ∙ reverse-push c.args.journal.now (Pair c.args.first c.args.second))

pub returns-clause-parts : goal.returns-clause-parts
returns-clause-parts c =
    let types = c.args.types.now in
    let past = reverse c.args.journal.now in
    let after = reverse c.push_pair.new.self in
    let is_past = ap reverse c.push_pair.ensures ∙ reverse-push c.args.journal.now (Pair c.args.first c.args.second) in
    let basis = basis_two c.args.types.now (reverse c.args.journal.now) c.args.waiting.now c.args.ready.now c.requires.parts c.args.first c.args.second c.requires.next.enabled after is_past in
    let most = c.requires.parts.table.most_traces in
    let lower = lower_two c.args.types.now past c.args.waiting.now c.args.ready.now c.requires.parts c.args.first c.args.second c.requires.next.enabled in
    let apart : c.args.second ≢ c.args.first = λ is. omega (arith, lower, ap (λ (i : EventId). i.trace) is) in
    let one : AreLooked types (came after) (deliveries after) (λ trace. trace ≡ c.args.first.trace) c.remove.new.self c.look.new.ready = record {
      kept = c.look.ensures.kept;
      sound = c.look.ensures.sound;
      found = λ block trace enabled has is. c.look.ensures.found block enabled (subst (HasTrace block) is has);
    } in
    let two : AreLooked types (came after) (deliveries after) (λ trace. trace ≡ c.args.second.trace) c.look.new.ready c.look-2.new.ready = record {
      kept = c.look-2.ensures.kept;
      sound = c.look-2.ensures.sound;
      found = λ block trace enabled has is. c.look-2.ensures.found block enabled (subst (HasTrace block) is has);
    } in
    let three : AreLooked types (came after) (deliveries after) (λ trace. Contains (waiting_for c.args.waiting.now c.args.first) trace) c.look-2.new.ready c.wake.new.ready = record {
      kept = c.wake.ensures.kept;
      sound = c.wake.ensures.sound;
      found = c.wake.ensures.found;
    } in
    let four : AreLooked types (came after) (deliveries after) (λ trace. Contains (waiting_for c.args.waiting.now c.args.second) trace) c.wake.new.ready c.wake-2.new.ready = record {
      kept = c.wake-2.ensures.kept;
      sound = c.wake-2.ensures.sound;
      found = λ block trace enabled has inside. c.wake-2.ensures.found block trace enabled has (subst (λ ts. Contains ts trace) (sym (c.wake.ensures.others c.args.second apart)) inside);
    } in
    let both = looked_both types (came after) (deliveries after) basis most (λ trace. trace ≡ c.args.first.trace) (λ trace. trace ≡ c.args.second.trace) c.remove.new.self c.look.new.ready c.look-2.new.ready one two in
    let rest = looked_both types (came after) (deliveries after) basis most (λ trace. Contains (waiting_for c.args.waiting.now c.args.first) trace) (λ trace. Contains (waiting_for c.args.waiting.now c.args.second) trace) c.look-2.new.ready c.wake.new.ready c.wake-2.new.ready three four in
    parts_two c.args.types.now (reverse c.args.journal.now) c.args.waiting.now c.args.ready.now c.requires.parts c.args.first c.args.second c.requires.next.enabled after is_past
    (c.next_is_one.ensures.shared types (came past) (deliveries past) c.requires.parts.history)
    c.remove.new.self c.wake-2.new.ready c.wake-2.new.waiting c.remove.ensures
    (looked_both types (came after) (deliveries after) basis most (λ trace. (trace ≡ c.args.first.trace) ⊎ (trace ≡ c.args.second.trace)) (λ trace. Contains (waiting_for c.args.waiting.now c.args.first) trace ⊎ Contains (waiting_for c.args.waiting.now c.args.second) trace) c.remove.new.self c.look-2.new.ready c.wake-2.new.ready both rest)
    (λ other apart. c.wake-2.ensures.others other (λ is. apart (inr is)) ∙ c.wake.ensures.others other (λ is. apart (inl is)))
