use Rattle.std.proofs.Common.{◌-◌, ◌<◌, ap, sym, subst}
use Rattle.std.specs.Prelude.{IfErr}
use Rattle.ob_covered.specs.Cover.{IsShort}
use Rattle.ob_covered.specs.Inside.{cover_of}
use Rattle.ob_covered.proofs.Covers.{short_at_once, short_later, refused_alike}
use Rattle.ob_covered.proofs.cover.Cover.raise.Goals as goal

pub returns-then-lacks-self-clause-short : goal.returns-then-lacks-self-clause-short
returns-then-lacks-self-clause-short c =
    let old = cover_of c.self.inside in
    let less : old.seat.account.held < c.args.needed = subst (λ o. o.seat.account.held < c.args.needed) (sym c.self.view_is) c.requires in
    subst (λ o. IfErr c.raise.result (λ fault. IsShort c.args.needed fault o (record { seat = c.raise.new.self; quantum = c.self.inside.quantum })))
    c.self.view_is
    (short_at_once c.args.needed (c.args.needed - c.held.result) old c.raise.new.self c.self.inside.quantum c.raise.result less
    (ap (λ held. c.args.needed - held) c.held.ensures.value) c.raise.ensures.refused)

pub returns-clause-short : goal.returns-clause-short
returns-clause-short c =
    let old = cover_of c.self.inside in
    let less : old.seat.account.held < c.args.needed = subst (λ o. o.seat.account.held < c.args.needed) (sym c.self.view_is) c.requires in
    let tried = refused_alike c.self.inside.quantum c.in_default.field-0 c.self.inside.seat c.raise-2.new.self c.in_default.ensures.refused in
    subst (λ o. IfErr c.raise-3.result (λ fault. IsShort c.args.needed fault o (record { seat = c.raise-3.new.self; quantum = c.self.inside.quantum })))
    c.self.view_is
    (short_later c.args.needed (c.args.needed - c.held.result) old c.raise-2.new.self c.raise-3.new.self c.self.inside.quantum c.raise-3.result
    tried less (ap (λ held. c.args.needed - held) c.held.ensures.value) c.raise-3.ensures.refused)
