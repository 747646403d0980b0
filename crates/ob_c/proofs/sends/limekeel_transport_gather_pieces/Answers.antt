use Rattle.std.proofs.Common.{ap, sym, ◌∙◌, subst, ℕ, List, length, take, arith}
use Rattle.ob_c.specs.Calls.{AreAt}
use Rattle.ob_c.specs.declared.transport.Transport.{Transport}
use Rattle.ob_c.proofs.Few.{few_gathered, told_blocks, told_refusal}
use Rattle.ob_c.proofs.sends.limekeel_transport_gather_pieces.Goals as goal

pub lay-requires : goal.lay-requires
lay-requires c =
    let few = few_gathered (λ blocks. blocks.items) _ c.args.max_bytes _ c.in-Some.answer _ c.in-Some.ensures.under c.in-Ok.blocks c.in-Ok.is in
    omega (arith, few, ap (λ (list : List (List ℕ)). length list) c.as_slice.ensures.value, c.min-most.ensures)

pub returns-in-Ok-clause-gathers : goal.returns-in-Ok-clause-gathers
returns-in-Ok-clause-gathers c =
    told_blocks (λ blocks. blocks.items) _ c.args.max_bytes _ c.in-Some.answer _ c.in-Some.ensures.under c.in-Ok.blocks c.in-Ok.is
    c.args.transport.now.value (length c.args.pieces.now) c.len.result c.lay.new.pieces
    (ap (λ (transport : Transport). transport.value) (sym c.is_open.ensures.1) ∙ c.reach.ensures.value) c.min-most.ensures
    c.in-Some.ensures.in_front
    (c.len.ensures ∙ sym c.as_slice.ensures.len ∙ ap (λ (list : List (List ℕ)). length list) c.as_slice.ensures.value)
    (subst (λ (count : ℕ). AreAt c.in-Ok.blocks.items (take count c.lay.new.pieces)) (sym (c.len.ensures ∙ sym c.as_slice.ensures.len ∙ ap (λ (list : List (List ℕ)). length list) c.as_slice.ensures.value))
    (subst (λ (blocks : List (List ℕ)). AreAt blocks (take (length blocks) c.lay.new.pieces)) c.as_slice.ensures.value
    c.lay.ensures.laid))

pub returns-in-Err-clause-gathers : goal.returns-in-Err-clause-gathers
returns-in-Err-clause-gathers c =
    told_refusal (λ blocks. blocks.items) _ c.args.max_bytes _ c.in-Some.answer _ c.in-Some.ensures.under c.in-Err.refusal c.in-Err.is
    c.args.transport.now.value (length c.args.pieces.now) c.from.result c.args.pieces.now
    (ap (λ (transport : Transport). transport.value) (sym c.is_open.ensures.1) ∙ c.reach.ensures.value) c.min-most.ensures
    (c.from.ensures ∙ c.number.ensures)
