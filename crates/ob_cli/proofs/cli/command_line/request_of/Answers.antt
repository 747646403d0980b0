use Rattle.std.proofs.Common.{◌≡◌, ◌⊎◌, inl}
use Rattle.ob_cli.specs.Request.{exit_status_of}
use Rattle.ob_script.proofs.Results.{IfErr-follows}
use Rattle.ob_cli.proofs.cli.command_line.request_of.Goals as goal

pub returns : goal.returns
returns g c =
    IfErr-follows {P = λ fault. exit_status_of fault ≡ 1} {Q = λ fault. (exit_status_of fault ≡ 1) ⊎ (exit_status_of fault ≡ 4)}
    c.request.result (λ fault refused. inl refused) c.request.ensures.err
