use Rattle.std.proofs.Common.{◌≡◌, ◌+◌, ◌∙◌, ap, drop, subst, rules}
use Rattle.std.proofs.lemmas.List.{drop-drop}
use Rattle.ob_script.specs.Inside.{IsFollowed}
use Rattle.ob_script.specs.declared.script_fault.ScriptFault.TheVariants.{Line}
use Rattle.ob_script.proofs.Places.{ends_misplaced, ends_unread, followed}
use Rattle.ob_script.proofs.reading.cursor.Cursor.read.Goals as goal

pub returns-in-Ok-clause-misplaced : goal.returns-in-Ok-clause-misplaced
returns-in-Ok-clause-misplaced g c = λ script stands misplaced.
    let left : c.behind.result.now ≡ c.args.self.now.rest = search rules in
    ends_misplaced g.G.Grammar.grammar script c.args.self.now.count c.args.self.now.rest c.first_line-bytes.result.0.now
    (drop c.first_line-bytes.result.1 c.args.self.now.rest) c.read.result c.in-Ok.line
    (rw left at c.first_line-bytes.ensures.lines) c.read.ensures c.in-Ok.is stands misplaced

pub returns-in-Ok-clause-placed : goal.returns-in-Ok-clause-placed
returns-in-Ok-clause-placed g c = λ script stands placed.
    let left : c.behind.result.now ≡ c.args.self.now.rest = search rules in
    let bytes = c.first_line-bytes.result.1 in
    let here : c.args.self.now.rest ≡ drop c.self.inside.read c.self.inside.script.items = search rules in
    subst (IsFollowed g.G.Grammar.grammar script c.args.self.now.count c.in-Ok.line)
    (ap (drop bytes) here ∙ drop-drop bytes c.self.inside.read c.self.inside.script.items)
    (followed g.G.Grammar.grammar script c.args.self.now.count c.args.self.now.rest c.first_line-bytes.result.0.now
    (drop bytes c.args.self.now.rest) c.read.result c.in-Ok.line (rw left at c.first_line-bytes.ensures.lines)
    c.read.ensures c.in-Ok.is stands placed)

pub returns-in-Err-clause-faulty : goal.returns-in-Err-clause-faulty
returns-in-Err-clause-faulty g c = λ script stands.
    let left : c.behind.result.now ≡ c.args.self.now.rest = search rules in
    let told : c.fault.result ≡ Line (c.args.self.now.count + 1) c.in-Err.fault = search rules in (
      c.in-Err.fault,
      told,
      ends_unread g.G.Grammar.grammar script c.args.self.now.count c.args.self.now.rest c.first_line-bytes.result.0.now
          (drop c.first_line-bytes.result.1 c.args.self.now.rest) c.read.result c.in-Err.fault
          (rw left at c.first_line-bytes.ensures.lines) c.read.ensures c.in-Err.is stands,
    )
