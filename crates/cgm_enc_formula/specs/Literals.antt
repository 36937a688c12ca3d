-- Literals: a variable of 0 or 1, or its negation.
use Rattle.std.specs.Prelude.{ℕ, Bool, true, cond, not, List, ℤ}
use Rattle.cgm_atom.specs.declared.constraints.Atom.{Atom}
use Rattle.cgm_atom.specs.Atoms.{atom_true}
use Rattle.cgm_atom.specs.Literals.{literal, negated}
use Rattle.cgm_enc_formula.specs.declared.literals.Literal.{Literal}

-- the literal of a variable
abbrev pub positive : ℕ → Literal
positive x = record { variable = x; is_positive = true }

-- its negation
abbrev pub opposite : Literal → Literal
opposite l = record { variable = l.variable; is_positive = not l.is_positive }

-- `x >= 1`, or `x <= 0`
abbrev pub atom_of : Literal → Atom
atom_of l = cond l.is_positive (literal l.variable) (negated l.variable)

abbrev pub literal_true : List ℤ → Literal → Bool
literal_true values l = atom_true values (atom_of l)
