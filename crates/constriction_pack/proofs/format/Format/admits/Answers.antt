use Rattle.constriction_coders.specs.Bytes.{bytes_of_words}
use Rattle.constriction_pack.proofs.format.Format.admits.Goals as goal

pub returns-in-Cpk3-FewContexts : goal.returns-in-Cpk3-FewContexts
returns-in-Cpk3-FewContexts c = rw (c.in-Cpk3-FewContexts.is-0, c.in-Cpk3-FewContexts.is-1)
    (λ block content. c.has_enough_words.ensures block (bytes_of_words content.words)
    content.laid_out)

pub returns-in-Cpk3-ManyContexts : goal.returns-in-Cpk3-ManyContexts
returns-in-Cpk3-ManyContexts c = rw (c.in-Cpk3-ManyContexts.is-0, c.in-Cpk3-ManyContexts.is-1)
    (λ block content. c.has_enough_words-in-Cpk3-ManyContexts.ensures block
    (bytes_of_words content.words) content.laid_out)
