use Rattle.std.proofs.Common.{◌≡◌, ◌++◌, Ok, ap, map, subst, sym, arith}
use Rattle.std.proofs.lemmas.Result.{IfOk-at_ok}
use Rattle.ob_seq.specs.Rows.{Settings}
use Rattle.ob_history.specs.History.{IsLegal, receipt_of}
use Rattle.ob_history.specs.declared.seen.Seen.{Seen}
use Rattle.ob_shared.specs.Calls.{ShareValue}
use Rattle.ob_pool.specs.Threads.{HasTakenOf}
use Rattle.ob_pool.proofs.Taking.{failings_since, if_kept, kept_of_pass, pass_taken}
use Rattle.ob_pool.proofs.threads.transport.one_pass.Goals as goal

-- the receipts that are kept are those before, and those of what the pass recorded
all_kept : (g : _) (c : goal.After-keep g) (own : _) → c.receipts_since-own.result ≡ Ok own →
    c.keep.new.receipts.items ≡ c.args.receipts.now.items ++ own.items →
    c.keep.new.receipts.items ≡ c.args.receipts.now.items ++ map receipt_of c.pass_or_fail-next.ensures.own.more
all_kept g c own is kept =
    let desk = c.args.desk in
    let after = c.pass_or_fail-next.new.booked in
    kept_of_pass desk.maker.caller after.maker.caller c.look-begun.result.place desk.history.records
    after.history.records c.pass_or_fail-next.ensures.own c.args.receipts.now.items own.items c.keep.new.receipts.items
    c.pass_or_fail-next.ensures.caller (ap (λ (seen : Seen). seen.place) c.look-begun.ensures.seen)
    (IfOk-at_ok _ is c.receipts_since-own.ensures.receipts) kept

pub returns-clause-failings : goal.returns-clause-failings
returns-clause-failings g c =
    if_kept c.keep.result c.pass_or_fail-next.result c.receipts_since-own.result _ _ _ c.keep.ensures.next
    c.keep.ensures.kept c.pass_or_fail-next.ensures.failings (λ then own is kept failed.
    let grown = c.pass_or_fail-next.ensures.own in
    omega (
      arith,
      failings_since c.args.desk.history.records c.pass_or_fail-next.new.booked.history.records grown.more
          c.args.receipts.now.items c.keep.new.receipts.items grown.grown (all_kept g c own is kept),
      failed,
    ))

pub returns-clause-taken : goal.returns-clause-taken
returns-clause-taken g c =
    let settings = g.L.Named.opened.settings in
    let before = c.args.desk.history in
    let after = c.pass_or_fail-next.new.booked.history in
    let old = g.S.Sink.content c.args.sink.now in
    let new = g.S.Sink.content c.pass_or_fail-next.new.sink in
    let opened = c.leave-share.ensures.opened in
    let was = subst (λ (its : Settings). IsLegal its before.records) c.requires.opened.settings
    c.requires.opened.legal in
    let legal = subst (λ (its : Settings). IsLegal its after.records) opened.settings opened.legal in
    if_kept c.keep.result c.pass_or_fail-next.result c.receipts_since-own.result _ _ _ c.keep.ensures.next
    c.keep.ensures.kept c.pass_or_fail-next.ensures.alike (λ then own is kept alike start taken.
    let grown = c.pass_or_fail-next.ensures.own in
    subst (λ (share : ShareValue). HasTakenOf settings share.sight.seen c.keep.new.receipts.items start new)
    (sym c.leave-share.ensures.share)
    (pass_taken settings before after grown.more c.args.receipts.now.items c.keep.new.receipts.items start old new
    c.requires.opened.settings opened.settings was legal grown.grown (all_kept g c own is kept) alike taken))
