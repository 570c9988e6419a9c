use Rattle.std.proofs.Common.{◌∙◌, arith}
use Rattle.std.proofs.lemmas.List.{get_or_read}
use Rattle.constriction_adaptive.proofs.mixer.tables.Tables.squash.Goals as goal

pub returns : goal.returns
returns c =
    let tables = c.args.self.now in
    get_or_read tables.squashes.items c.args.strength c.index.result.now (omega (arith, tables.many_squashes, c.requires)) c.index.ensures 0
    ∙ tables.are_squashes c.args.strength c.requires
