-- Contexts: what a document is read with, term by term. JSON-LD 1.1 API, 4.1
use Rattle.std.specs.Prelude.{◌≡◌, ℕ, List, [], ◌∷◌, map, Bool, false, Option, Some, None, option_map, find, reverse, if◌then◌else◌}
use Rattle.std.specs.Str.{bytes_eq}
use Rattle.ld_termdef.specs.declared.definition.TermDef.{TermDef}
use Rattle.ld_termdef.specs.declared.definition.TermEntry.{TermEntry}
use Rattle.ld_termdef.specs.declared.context.ContextParts.{ContextParts}
use Rattle.ld_termdef.specs.declared.context.ActiveContext.{ActiveContext}

-- What a text means, and what is added to one. A term has at most one definition, so the terms are
-- a function. -- JSON-LD 1.1 API, 4.1, active context
pub record Context : Type 0 where
  pub base : Option (List ℕ)
  pub vocab : Option (List ℕ)
  pub language : Option (List ℕ)
  pub direction : Option (List ℕ)
  pub terms : List ℕ → Option TermDef

-- An active context: the context that holds, and those to which reading may return, the nearest
-- first. The first of these is the previous context, and those behind it are its own.
-- JSON-LD 1.1 API, 4.1, previous context
pub record Active : Type 0 where
  pub current : Context
  pub previous : List Context

-- The context that says nothing. -- JSON-LD 1.1 API, 4.1, newly-initialized active context
abbrev pub empty_context : Context
empty_context = record {
  base = None;
  vocab = None;
  language = None;
  direction = None;
  terms = λ t. None;
}

abbrev pub initial : Active
initial = record { current = empty_context; previous = [] }

-- The previous context, with its own previous ones; an active context without one stays.
-- JSON-LD 1.1 API, 5.1.2, step 7
abbrev pub return_to : Active → List Context → Active
return_to a [] = a
return_to a (c ∷ cs) = record { current = c; previous = cs }

abbrev pub previous_of : Active → Active
previous_of a = return_to a a.previous

-- The result after a context that does not propagate: where it has no previous context, the one
-- from before becomes that. -- JSON-LD 1.1 API, 4.1.2, step 3
abbrev pub with_previous : Active → Active → List Context → Active
with_previous before result [] = record {
  current = result.current;
  previous = before.current ∷ before.previous;
}
with_previous before result (c ∷ cs) = result

abbrev pub remember : Bool → Active → Active → Active
remember propagate before result =
    if propagate then result else with_previous before result result.previous

-- no term of the context is protected
abbrev pub ProtectsNone : Context → Type 0
ProtectsNone c = (t : List ℕ) (d : TermDef) → c.terms t ≡ Some d → d.protected ≡ false

-- ---- what the program keeps

-- the definition of a term in a list of entries
abbrev pub definition_in : List TermEntry → List ℕ → Option TermDef
definition_in entries t = option_map (λ e. e.def) (find (λ e. bytes_eq e.term t) entries)

-- what the parts of a context stand for
abbrev pub context_of : ContextParts → Context
context_of p = record {
  base = p.base;
  vocab = p.vocab;
  language = p.language;
  direction = p.direction;
  terms = λ t. definition_in p.terms t;
}

-- The active context that a value of the program stands for. The program keeps the previous
-- contexts with the nearest last.
abbrev pub active_of : ActiveContext → Active
active_of a = record {
  current = context_of a.current;
  previous = map context_of (reverse a.previous);
}
