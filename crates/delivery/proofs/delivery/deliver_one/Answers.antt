use Rattle.std.proofs.Common.{◌≡◌, reverse, ◌∙◌, ap, subst, arith}
use Rattle.std.specs.Prelude.{Contains}
use Rattle.causal_base.specs.declared.entry.Entry.TheVariants.{Gone}
use Rattle.causal_base.specs.Past.{came, deliveries, HasTrace}
use Rattle.causal_base.proofs.CallerLemmas.{reverse-push}
use Rattle.partner_match.specs.Waiting.{waiting_for}
use Rattle.delivery.proofs.Looks.{AreLooked, looked_both}
use Rattle.delivery.proofs.Moves.{basis_one, below_one, fewer_one, parts_one}
use Rattle.delivery.proofs.delivery.deliver_one.Goals as goal

pub push_gone-requires-clause-trace : goal.push_gone-requires-clause-trace
push_gone-requires-clause-trace c =
    let below = below_one c.args.types.now (reverse c.args.journal.now) c.args.waiting.now c.args.ready.now c.requires.parts c.args.id c.requires.next.enabled in
    omega (arith, below, c.requires.parts.table.most_traces)

pub push_gone-requires-clause-fewer : goal.push_gone-requires-clause-fewer
push_gone-requires-clause-fewer c = fewer_one c.args.types.now (reverse c.args.journal.now) c.args.waiting.now c.args.ready.now c.requires.parts c.args.id c.requires.next.enabled

pub remove-requires : goal.remove-requires
remove-requires c =
    let below = below_one c.args.types.now (reverse c.args.journal.now) c.args.waiting.now c.args.ready.now c.requires.parts c.args.id c.requires.next.enabled in
    omega (arith, below, c.requires.parts.table.most_traces)

pub look-requires : goal.look-requires
look-requires c =
    basis_one c.args.types.now (reverse c.args.journal.now) c.args.waiting.now c.args.ready.now c.requires.parts c.args.id c.requires.next.enabled (reverse c.push_gone.new.self)
    (ap reverse c.push_gone.ensures ∙ reverse-push c.args.journal.now (Gone c.args.id))

pub wake-requires : goal.wake-requires
wake-requires c =
    basis_one c.args.types.now (reverse c.args.journal.now) c.args.waiting.now c.args.ready.now c.requires.parts c.args.id c.requires.next.enabled (reverse c.push_gone.new.self)
    (ap reverse c.push_gone.ensures ∙ reverse-push c.args.journal.now (Gone c.args.id))

pub returns-clause-parts : goal.returns-clause-parts
returns-clause-parts c =
    let types = c.args.types.now in
    let past = reverse c.args.journal.now in
    let after = reverse c.push_gone.new.self in
    let is_past = ap reverse c.push_gone.ensures ∙ reverse-push c.args.journal.now (Gone c.args.id) in
    let basis = basis_one types past c.args.waiting.now c.args.ready.now c.requires.parts c.args.id c.requires.next.enabled after is_past in
    let first : AreLooked types (came after) (deliveries after) (λ trace. trace ≡ c.args.id.trace) c.remove.new.self c.look.new.ready = record {
      kept = c.look.ensures.kept;
      sound = c.look.ensures.sound;
      found = λ block trace enabled has is. c.look.ensures.found block enabled (subst (HasTrace block) is has);
    } in
    let rest : AreLooked types (came after) (deliveries after) (λ trace. Contains (waiting_for c.args.waiting.now c.args.id) trace) c.look.new.ready c.wake.new.ready = record {
      kept = c.wake.ensures.kept;
      sound = c.wake.ensures.sound;
      found = λ block trace enabled has inside. c.wake.ensures.found block trace enabled has inside;
    } in
    parts_one types past c.args.waiting.now c.args.ready.now c.requires.parts c.args.id c.requires.next.enabled after is_past
    (c.next_is_one.ensures.shared types (came past) (deliveries past) c.requires.parts.history)
    c.remove.new.self c.wake.new.ready c.wake.new.waiting c.remove.ensures
    (looked_both types (came after) (deliveries after) basis c.requires.parts.table.most_traces (λ trace. trace ≡ c.args.id.trace) (λ trace. Contains (waiting_for c.args.waiting.now c.args.id) trace) c.remove.new.self c.look.new.ready c.wake.new.ready first rest)
    c.wake.ensures.others
