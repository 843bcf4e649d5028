use Rattle.std.proofs.Common.{rules, ◌≡◌, ◌+◌, ◌-◌, List, length, sym, ap, ◌∙◌, subst, length-append, arith}
use Rattle.causal_base.specs.declared.entry.Entry.{Entry}
use Rattle.turnstile.specs.Entries.{GoesOnBy}
use Rattle.turnstile.proofs.Keeping.{appends}
use Rattle.turnstile.proofs.turnstile.Turnstile.append.Goals as goal

pub fetch_add-requires : goal.fetch_add-requires
fetch_add-requires g c =
    let holder = c.args.holder in let seen : List Entry = holder.token.me.0.view.seen in let journal : List Entry = g.G.Grown.journal in
    let own = c.requires.own in
    let long : length journal ≡ c.length.result = ap (λ (l : List Entry). length l) c.requires.named ∙ sym c.length.ensures in
    let added : length seen + (c.length.result - holder.entries) ≡ length journal =
    omega (arith, holder.counted, ap (λ (l : List Entry). length l) own.whole, length-append seen own.added, c.length.ensures) in (
      search rules,
      search rules,
      appends g.V.StandsFor.journal_of g.V.StandsFor.fixed_of _ _ _ holder.token.me journal (c.length.result - holder.entries) holder.read holder.live
          (subst (GoesOnBy holder.token.me.0.view.lo seen) (sym c.requires.named) own) added (omega arith),
    )
