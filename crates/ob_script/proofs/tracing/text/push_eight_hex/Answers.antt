use Rattle.std.proofs.Common.{◌∙◌, ◌++◌, ◌/◌, ◌%◌, ap, append_assoc, string_bytes, sym}
use Rattle.std.specs.Prelude.{codes}
use Rattle.ob_script.proofs.Results.{OnOk-follows}
use Rattle.ob_script.proofs.Digits.{eight_hex-byte, eight_hex-bytes, four_more, two_hex}
use Rattle.ob_script.proofs.tracing.text.push_eight_hex.Goals as goal

pub returns-then-number-lt256 : goal.returns-then-number-lt256
returns-then-number-lt256 c = OnOk-follows c.push_two_hex.result (λ last.
    let old = string_bytes c.args.text.now in
    let number = c.args.number in
    last ∙ ap (λ text. text ++ two_hex number) c.in_ok-push_str.ensures.bytes
    ∙ append_assoc old (codes "000000") (two_hex number)
    ∙ ap (λ digits. old ++ digits) (sym (eight_hex-byte number c.if-number-lt256.true)))
    c.push_two_hex.ensures

pub returns : goal.returns
returns c = OnOk-follows c.push_two_hex-5.result (λ last.
    let old = string_bytes c.args.text.now in
    let number = c.args.number in
    four_more old (string_bytes c.push_two_hex-2.new.text) (string_bytes c.push_two_hex-3.new.text)
    (string_bytes c.push_two_hex-4.new.text) (string_bytes c.push_two_hex-5.new.text)
    (two_hex (number / 16777216)) (two_hex (number / 65536 % 256)) (two_hex (number / 256 % 256))
    (two_hex (number % 256))
    c.in_ok-push_two_hex.ensures c.in_ok-push_two_hex-2.ensures c.in_ok-push_two_hex-3.ensures last
    ∙ ap (λ digits. old ++ digits) (sym (eight_hex-bytes number c.ranges.number.fits)))
    c.push_two_hex-5.ensures
