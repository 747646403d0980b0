use Rattle.std.proofs.Common.{◌≡◌, ℕ, List, arith, false, true, subst, sym, [], ◌∷◌, ◌++◌, ◌∙◌}
use Rattle.ob_lifecycle.specs.Events.{Event, Ticked}
use Rattle.ob_lifecycle.specs.Inside.{managed_of}
use Rattle.ob_lifecycle.specs.Managed.{Brings, Gives, StandsFor, opened_as}
use Rattle.ob_lifecycle.specs.Strain.{TookLittle, TookNothing, is_named, names_by}
use Rattle.ob_lifecycle.proofs.Bringing.{managed_with, stands_on}
use Rattle.ob_lifecycle.proofs.Ends.{brings_tick, names_at, stands_named, tick_fits}
use Rattle.ob_lifecycle.proofs.Naming.{took_little}
use Rattle.ob_lifecycle.proofs.managed.ManagedConnection.tick.Goals as goal

pub invariant_of-self : goal.invariant_of-self
invariant_of-self c =
    stands_on (managed_of c.self.inside) _ _ _ c.self.invariant
    (brings_tick (managed_of c.self.inside) c.tick-named.new.self c.pass.new.self c.is_empty.result c.is_writable.result c.args.now c.is_empty.ensures c.tick-named.ensures.watch
    c.is_writable.ensures c.pass.ensures)

pub returns-clause-named : goal.returns-clause-named
returns-clause-named c =
    subst (λ old. Gives old (names_by c.args.now) c.tick-named.result) c.self.view_is
    (names_at (managed_of c.self.inside) c.tick-named.new.self c.is_empty.result c.args.now c.tick-named.result c.is_empty.ensures
    c.tick-named.ensures.watch c.tick-named.ensures.named)

pub returns-clause-little : goal.returns-clause-little
returns-clause-little c =
    subst (λ old. (events : List Event) → StandsFor old events → c.tick-named.result ≡ true → TookLittle (opened_as old) events c.args.now) c.self.view_is
    (λ events stands is. took_little (opened_as (managed_of c.self.inside)) events c.args.now (omega arith)
    (sym (names_at (managed_of c.self.inside) c.tick-named.new.self c.is_empty.result c.args.now c.tick-named.result c.is_empty.ensures
    c.tick-named.ensures.watch c.tick-named.ensures.named events stands) ∙ is))

pub returns-clause-nothing : goal.returns-clause-nothing
returns-clause-nothing c =
    subst (λ old. (before between : List Event) (first : ℕ) → StandsFor old (before ++ Ticked first ∷ between)
    → TookNothing (opened_as old) before first between c.args.now
    → Gives (managed_with (managed_of c.self.inside) c.self.inside.connection (record c.self.inside.ending { watch = c.tick-named.new.self }) c.self.inside.tally c.pass.new.self) is_named true) c.self.view_is
    (λ before between first. stands_named (managed_of c.self.inside) _ c.args.now before between first
    (brings_tick (managed_of c.self.inside) c.tick-named.new.self c.pass.new.self c.is_empty.result c.is_writable.result c.args.now c.is_empty.ensures c.tick-named.ensures.watch
    c.is_writable.ensures c.pass.ensures))

pub returns-clause-brings : goal.returns-clause-brings
returns-clause-brings c =
    subst (λ old. Brings old (Ticked c.args.now ∷ []) false
    (managed_with (managed_of c.self.inside) c.self.inside.connection (record c.self.inside.ending { watch = c.tick-named.new.self }) c.self.inside.tally c.pass.new.self)) c.self.view_is
    (brings_tick (managed_of c.self.inside) c.tick-named.new.self c.pass.new.self c.is_empty.result c.is_writable.result c.args.now c.is_empty.ensures c.tick-named.ensures.watch
    c.is_writable.ensures c.pass.ensures)

pub pass-requires : goal.pass-requires
pass-requires c =
    omega (arith, tick_fits (managed_of c.self.inside) c.tick-named.new.self c.is_empty.result c.args.now c.self.invariant c.tick-named.ensures.watch)
