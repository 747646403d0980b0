use Rattle.std.proofs.Common.{◌≡◌, List, [], sym, ap, ◌∙◌, subst, arith}
use Rattle.ob_seq.specs.Rows.{Settings}
use Rattle.ob_history.specs.History.{IsBeginning, IsLegal, glance_after}
use Rattle.ob_history.specs.declared.record.Record.{Record}
use Rattle.ob_shared.specs.Published.{publishing}
use Rattle.ob_shared.specs.Calls.{packed_glance}
use Rattle.ob_shared.proofs.Publishing.{may_keep, may_publish}
use Rattle.ob_shared.proofs.words.Words.publish.Goals as goal

pub load-requires : goal.load-requires
load-requires g c =
    let words = c.args.self.now in
    let seat = c.args.seat.now in
    let history = c.args.recorded.now in
    let records = g.E.Records.records in
    let same : history.records ≡ records = sym c.requires.records in
    let longer : IsBeginning seat.me.0.seen records =
    subst (λ (more : List Record). IsBeginning seat.me.0.seen more) same c.requires.longer in
    let legal : IsLegal g.L.Named.opened.settings records =
    subst (λ (more : List Record). IsLegal g.L.Named.opened.settings more) same
    (subst (λ (settings : Settings). IsLegal settings history.records) c.requires.settings
    c.records-records.ensures.legal) in
    let glance : c.glance-glance.result ≡ glance_after g.L.Named.opened.settings records =
    c.glance-glance.ensures ∙ ap (λ (settings : Settings). glance_after settings history.records) c.requires.settings
    ∙ ap (λ (more : List Record). glance_after g.L.Named.opened.settings more) same in (
      c.requires.table ∙ sym words.table_is,
      omega (arith, words.words),
      rw (words.marks_are, words.estimate_is)
          (may_keep g.L.Named.opened.settings words.table.shared.table_id.slots seat.id seat.me records
          c.requires.publishes longer legal
          (sym c.requires.last ∙ sym c.if-number-last.true ∙ c.pack-number.ensures ∙ ap packed_glance glance)),
    )

pub store-requires : goal.store-requires
store-requires g c =
    let words = c.args.self.now in
    let seat = c.args.seat.now in
    let history = c.args.recorded.now in
    let records = g.E.Records.records in
    let same : history.records ≡ records = sym c.requires.records in
    let longer : IsBeginning seat.me.0.seen records =
    subst (λ (more : List Record). IsBeginning seat.me.0.seen more) same c.requires.longer in
    let legal : IsLegal g.L.Named.opened.settings records =
    subst (λ (more : List Record). IsLegal g.L.Named.opened.settings more) same
    (subst (λ (settings : Settings). IsLegal settings history.records) c.requires.settings
    c.records-records.ensures.legal) in
    let glance : c.glance-glance.result ≡ glance_after g.L.Named.opened.settings records =
    c.glance-glance.ensures ∙ ap (λ (settings : Settings). glance_after settings history.records) c.requires.settings
    ∙ ap (λ (more : List Record). glance_after g.L.Named.opened.settings more) same in (
      c.requires.table ∙ sym words.table_is,
      omega (arith, words.words),
      rw (words.marks_are, words.estimate_is)
          (may_publish g.L.Named.opened.settings words.table.shared.table_id.slots seat.id seat.me records c.pack-number.result
          c.requires.publishes longer legal (c.pack-number.ensures ∙ ap packed_glance glance)),
    )

pub returns-then-number-last-clause-me : goal.returns-then-number-last-clause-me
returns-then-number-last-clause-me g c =
    c.load.ensures.2
    ∙ ap (λ (records : List Record). (publishing records [], c.args.seat.now.me.1)) c.requires.records

pub returns-then-number-last-clause-legal : goal.returns-then-number-last-clause-legal
returns-then-number-last-clause-legal g c =
    subst (λ (settings : Settings). IsLegal settings c.args.recorded.now.records) c.requires.settings
    c.records-records.ensures.legal

pub returns-then-number-last-clause-number : goal.returns-then-number-last-clause-number
returns-then-number-last-clause-number g c =
    c.pack-number.ensures ∙ ap packed_glance (c.glance-glance.ensures
    ∙ ap (λ (settings : Settings). glance_after settings c.args.recorded.now.records) c.requires.settings)

pub returns-clause-number : goal.returns-clause-number
returns-clause-number g c =
    c.pack-number.ensures ∙ ap packed_glance (c.glance-glance.ensures
    ∙ ap (λ (settings : Settings). glance_after settings c.args.recorded.now.records) c.requires.settings)

pub returns-clause-me : goal.returns-clause-me
returns-clause-me g c =
    c.store.ensures.2
    ∙ ap (λ (records : List Record). (publishing records [], c.args.seat.now.me.1)) c.requires.records

pub returns-clause-legal : goal.returns-clause-legal
returns-clause-legal g c =
    subst (λ (settings : Settings). IsLegal settings c.args.recorded.now.records) c.requires.settings
    c.records-records.ensures.legal
