-- The lines of a trace, with one more at the end.
use Rattle.std.proofs.Common.{◌≡◌, ◌∙◌, ℕ, ◌+◌, ◌<◌, true, false, cond, List, [], ◌∷◌, ap, get_or, length, reverse}
use Rattle.std.proofs.Common.{take}
use Rattle.std.proofs.lemmas.List.{reverse-append, take_more}
use Rattle.std.specs.List.{prefix_len, suffix_len}
use Rattle.std.specs.Option.{option_map_or}
use Rattle.std.specs.Prelude.{find}
use Rattle.ob_traces.specs.Summary.{is_unwritable, pending_behind, unwritable_at}
use Rattle.ob_traces.specs.Traces.{shows_bytes}
use Rattle.ob_traces.specs.declared.traces.line.TraceLine.{TraceLine}

-- the lines that stand together up to a line, by what it shows
pub unwritable_at-more : (lines : List TraceLine) (place : ℕ) (d : TraceLine) → place < length lines
    → unwritable_at lines place
    ≡ cond (is_unwritable (get_or lines place d)) (1 + suffix_len is_unwritable (take place lines)) 0
unwritable_at-more lines place d inside =
    ap (suffix_len is_unwritable) (take_more lines place d inside)
    ∙ ap (prefix_len is_unwritable) (reverse-append (take place lines) (get_or lines place d ∷ []))

-- what is pending behind one line more, if that shows it, and if it does not
pending_with : (lines : List TraceLine) (place : ℕ) (d : TraceLine) → place < length lines
    → pending_behind (take (place + 1) lines)
    ≡ option_map_or (λ line. line.total) (find shows_bytes (get_or lines place d ∷ reverse (take place lines))) 0
pending_with lines place d inside =
    ap pending_behind (take_more lines place d inside)
    ∙ ap (λ behind. option_map_or (λ line. line.total) (find shows_bytes behind) 0)
    (reverse-append (take place lines) (get_or lines place d ∷ []))

pub pending_behind-shown : (lines : List TraceLine) (place : ℕ) (d : TraceLine) → place < length lines
    → shows_bytes (get_or lines place d) ≡ true
    → pending_behind (take (place + 1) lines) ≡ (get_or lines place d).total
pending_behind-shown lines place d inside shows = pending_with lines place d inside ∙ simp shows

pub pending_behind-bare : (lines : List TraceLine) (place : ℕ) (d : TraceLine) → place < length lines
    → shows_bytes (get_or lines place d) ≡ false
    → pending_behind (take (place + 1) lines) ≡ pending_behind (take place lines)
pending_behind-bare lines place d inside shows = pending_with lines place d inside ∙ simp shows
