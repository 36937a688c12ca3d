-- The word that a fault line has for what is wrong with a line of a certificate.
use Rattle.std.specs.Prelude.{ℕ, List, codes}
use Rattle.cgm_cert.specs.declared.stop.CertKind.{CertKind}
use Rattle.cgm_cert.specs.declared.stop.CertKind.TheVariants as kinds

abbrev pub certificate_word : CertKind → List ℕ
certificate_word kinds.Header = codes "header"
certificate_word kinds.Entry = codes "entry"
certificate_word kinds.Unfinished = codes "unfinished"
