-- The trace of some first lines of a script, one line after another.
use Rattle.std.proofs.Common.{◌≡◌, ◌∙◌, ℕ, ◌+◌, ◌++◌, List, [], ◌∷◌, length, take, drop, Option, None, Some, ap, sym}
use Rattle.std.proofs.Common.{arith, append_assoc, append-nil, subst, take_all}
use Rattle.std.specs.Io.KnownBytes.{Keeps, append_known}
use Rattle.ob_script.specs.Inside.{HasTraced, EndsAt}
use Rattle.ob_script.specs.Reading.{script_fault, script_lines}
use Rattle.ob_script.specs.Tracing.{Language, Texts, text_unless, trace_behind, trace_of, trace_of_first}
use Rattle.ob_script.specs.Tracing.{trace_of_lines}
use Rattle.ob_script.proofs.Places.{take-one_more}
use Rattle.ob_script.specs.declared.reading.fault.LineFault.{LineFault}

-- the trace of two runs of lines, one after the other
trace_behind-append : {L : Type 0} (texts : Texts L) (before xs ys : List L)
    → trace_behind texts before (xs ++ ys) ≡ trace_behind texts before xs
    ++ trace_behind texts (before ++ xs) ys
trace_behind-append texts before [] ys = ap (λ b. trace_behind texts b ys) (sym (append-nil before))
trace_behind-append texts before (x ∷ xs) ys =
    let text = texts.line_text before x in
    let rest = trace_behind texts (before ++ x ∷ []) xs in
    ap (λ t. text ++ t) (trace_behind-append texts (before ++ x ∷ []) xs ys)
    ∙ ap (λ b. text ++ (rest ++ trace_behind texts b ys)) (append_assoc before (x ∷ []) xs)
    ∙ sym (append_assoc text rest _)

-- the trace of one line more
pub trace_of_first-more : {L : Type 0} (n : ℕ) (language : Language L) (script : List ℕ) (line : L) (rest : List L)
    → drop n (script_lines language.grammar script) ≡ line ∷ rest
    → trace_of_first (n + 1) language script ≡ trace_of_first n language script
    ++ language.texts.line_text (take n (script_lines language.grammar script)) line
trace_of_first-more n language script line rest left =
    let before = take n (script_lines language.grammar script) in
    ap (trace_behind language.texts []) (take-one_more n (script_lines language.grammar script) rest line left).0
    ∙ trace_behind-append language.texts [] before (line ∷ [])
    ∙ ap (λ t. trace_behind language.texts [] before ++ t) (append-nil (language.texts.line_text before line))

-- the trace of a script without a fault
pub trace_of-whole : {L : Type 0} (language : Language L) (script : List ℕ) → script_fault language.grammar script ≡ None
    → trace_of_lines language script ++ language.texts.last_text (script_lines language.grammar script) ≡ trace_of language script
trace_of-whole language script e =
    ap (λ o. trace_of_lines language script ++ text_unless o (language.texts.last_text (script_lines language.grammar script)))
    (sym e)

-- the trace of all lines is that of the first *n* lines
pub all_lines : {L : Type 0} (language : Language L) (script : List ℕ)
    → trace_of_first (length (script_lines language.grammar script)) language script ≡ trace_of_lines language script
all_lines language script =
    ap (trace_behind language.texts [])
    (take_all (length (script_lines language.grammar script)) (script_lines language.grammar script) (omega arith))

-- what waits grows with the trace
pub HasTraced-more : (start held : Option (List ℕ)) (waiting text more grown : List ℕ)
    → HasTraced start held waiting text → grown ≡ waiting ++ more
    → HasTraced start held grown (text ++ more)
HasTraced-more None held waiting text more grown traced e = tt
HasTraced-more (Some x) None waiting text more grown traced e = absurd traced
HasTraced-more (Some x) (Some y) waiting text more grown traced e =
    ap (λ t. y ++ t) e ∙ sym (append_assoc y waiting more) ∙ ap (λ t. t ++ more) traced ∙ append_assoc x text more

-- what waits may go out
pub HasTraced-kept : (start held out : Option (List ℕ)) (waiting left text : List ℕ) → HasTraced start held waiting text
    → Keeps (append_known held waiting) (append_known out left) → HasTraced start out left text
HasTraced-kept None held out waiting left text traced kept = tt
HasTraced-kept (Some x) None out waiting left text traced kept = absurd traced
HasTraced-kept (Some x) (Some y) None waiting left text traced kept = absurd kept
HasTraced-kept (Some x) (Some y) (Some z) waiting left text traced kept = kept ∙ traced

-- what ends behind some first lines of which the trace stands has the trace of all lines
pub traced_whole : {L : Type 0} (language : Language L) (script : List ℕ) (count : ℕ) (fault : Option (ℕ × LineFault))
    (start held : Option (List ℕ)) (waiting : List ℕ) → EndsAt language.grammar script count fault
    → HasTraced start held waiting (trace_of_first count language script)
    → HasTraced start held waiting (trace_of_lines language script)
traced_whole language script count fault start held waiting ends traced =
    subst (λ (some : List _). HasTraced start held waiting (trace_behind language.texts [] some)) ends.0 traced
