use Rattle.constriction_client.proofs.Running.{runs_alike}
use Rattle.constriction_client.proofs.laws.runs.runs_are_alike.Goals as goal

pub returns : goal.returns
returns g c = λ calls s t turned left replies others is run back.
    let alike = runs_alike calls s t turned left replies others is run back in
    (alike.0, alike.1)
