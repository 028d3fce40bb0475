use Rattle.std.proofs.Common.{rules, ◌≡◌}
use Rattle.std.specs.Prelude.{Ok}
use Rattle.std.proofs.lemmas.Result.{err_from_is_err_and}
use Rattle.text.specs.Misfit.{refused_at}
use Rattle.text.proofs.Judging.{mapped_ok, mapped_err}
use Rattle.command_text.proofs.Keeping.{check_laws}
use Rattle.command_text.proofs.check_command_text.Goals as goal

pub loop-place-preserved : goal.loop-place-preserved
loop-place-preserved c =
    let e : c.judge.result ≡ Ok c.in_ok-kept.kept = mapped_ok _ c.judge.result c.in_ok-kept.kept _ c.in_ok-kept.ensures.cases (λ e h. h) in
    search (rules, check_laws)

pub returns-in_err-kept : goal.returns-in_err-kept
returns-in_err-kept c =
    let p = err_from_is_err_and c.from_residual.result c.from_residual.ensures.1 in
    let q = mapped_err c.judge.result _ _ c.in_err-kept.ensures.cases (λ x h. cc) in
    let w : c.in_err-kept.field-0.0 ≡ refused_at q.0 c.loop-place.place.line = search (rules, q.2) in
    rw (p.1, p.2, w) (search (rules, check_laws, q.1))
