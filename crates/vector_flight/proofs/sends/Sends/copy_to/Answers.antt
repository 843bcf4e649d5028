-- A clock that is found is that of the id that was asked for.
use Rattle.std.proofs.Common.{◌≡◌, ◌∙◌, sym, ap, Some, length}
use Rattle.std.specs.Prelude.{Contains}
use Rattle.std.specs.Option.{option_copied}
use Rattle.causal_base.proofs.CallerLemmas.{same_from_is_same_id}
use Rattle.vector_flight.proofs.Kept.{found, found_each, looked_up, on_true}
use Rattle.vector_flight.proofs.sends.Sends.copy_to.Goals as goal
use Rattle.vector_flight.proofs.sends.Sends.copy_to.Goals.{in-Some, in-None}

pub copy_kept-requires : goal.copy_kept-requires
copy_kept-requires c =
    found_each _ c.args.id (λ key is. sym (same_from_is_same_id c.args.id key is)) c.args.self.now c.self.inside.clocks.entries c.self.inside.clocks.entries c.self.view_is
    (λ clock. length clock ≡ length c.args.into.now) (λ clock there. c.requires c.args.id clock there) c.in-Some.kept.now (sym c.get.ensures.value ∙ ap option_copied c.in-Some.is)

pub returns-clause-there : goal.returns-clause-there
returns-clause-there c = elim c.match-get.branch [
  | in-Some w ↦ rw (w.result-is, w.into-is) (on_true w.copy_kept.result (w.in-Some.kept.now ≡ Some w.copy_kept.new.into) (Contains c.args.self.now (c.args.id, Some w.copy_kept.new.into))
      (found _ c.args.id (λ key is. sym (same_from_is_same_id c.args.id key is)) c.args.self.now c.self.inside.clocks.entries c.self.inside.clocks.entries c.self.view_is
      w.copy_kept.new.into w.in-Some.kept.now (sym c.get.ensures.value ∙ ap option_copied w.in-Some.is)) w.copy_kept.ensures.there)
  | in-None w ↦ rw w.result-is tt
]

pub returns-clause-no_more : goal.returns-clause-no_more
returns-clause-no_more c = elim c.match-get.branch [
  | in-Some w ↦ looked_up _ c.args.id (λ key is. sym (same_from_is_same_id c.args.id key is)) c.args.self.now c.self.inside.clocks.entries c.match-get.self-inside.clocks.entries c.self.view_is
      (ap (λ i. i.clocks.entries) w.self-inside-is ∙ ap (λ i. i.entries) c.get.follows.holds-at-none)
  | in-None w ↦ looked_up _ c.args.id (λ key is. sym (same_from_is_same_id c.args.id key is)) c.args.self.now c.self.inside.clocks.entries c.match-get.self-inside.clocks.entries c.self.view_is
      (ap (λ i. i.clocks.entries) w.self-inside-is ∙ ap (λ i. i.entries) c.get.follows.holds-at-none)
]
