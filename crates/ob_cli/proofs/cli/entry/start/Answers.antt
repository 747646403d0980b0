use Rattle.std.proofs.Common.{◌≡◌, arith, rules}
use Rattle.ob_cli.specs.Request.{status_of}
use Rattle.ob_cli.proofs.Entered.{cut_short, out_of_memory, two_at_least, untraced, whole}
use Rattle.ob_cli.proofs.cli.entry.start.Goals as goal

pub returns-in-Err-clause-leaves : goal.returns-in-Err-clause-leaves
returns-in-Err-clause-leaves g c = record {
  traced = search rules;
  refused = search rules;
  unread = search rules;
  cut_short = search rules;
  no_memory = λ status.
      untraced (g.R.Read.remaining c.args.reader.now) (g.W.Write.contents c.args.writer.now);
  undriven = search rules;
}

pub returns-in-Err-carry_out-clause-leaves : goal.returns-in-Err-carry_out-clause-leaves
returns-in-Err-carry_out-clause-leaves g c =
    let fault = c.in-Err-carry_out.fault in
    let ended = c.in-Err-carry_out.ensures in
    let two = two_at_least fault in record {
      traced = λ (status : status_of fault ≡ 0). absurd (omega (arith, two, status));
      refused = λ (status : status_of fault ≡ 1). absurd (omega (arith, two, status));
      unread = λ (status : status_of fault ≡ 1). absurd (omega (arith, two, status));
      cut_short = λ status.
          cut_short c.in-Ok.request fault (g.R.Read.remaining c.args.reader.now)
          (g.W.Write.contents c.args.writer.now) (g.W.Write.contents c.carry_out.new.writer)
          status ended.written ended.fault;
      no_memory = λ status.
          out_of_memory c.in-Ok.request fault (g.R.Read.remaining c.args.reader.now)
          (g.W.Write.contents c.args.writer.now) (g.W.Write.contents c.carry_out.new.writer)
          status ended.no_memory;
      undriven = ended.undriven;
    }

pub returns-in-Ok-carry_out-clause-leaves : goal.returns-in-Ok-carry_out-clause-leaves
returns-in-Ok-carry_out-clause-leaves g c =
    let ended = c.in-Ok-carry_out.ensures in record {
      traced = λ status.
          whole c.in-Ok.request (g.R.Read.remaining c.args.reader.now)
          (g.W.Write.contents c.args.writer.now) (g.W.Write.contents c.carry_out.new.writer)
          (ended.written tt) (ended.fault tt);
      refused = λ status. absurd cc;
      unread = λ status. absurd cc;
      cut_short = λ status. absurd cc;
      no_memory = λ status. absurd cc;
      undriven = λ status. absurd cc;
    }
