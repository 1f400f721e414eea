-- What is kept of a text while it is read, line by line.
use Rattle.std.specs.Prelude.{◌≡◌, ◌<◌, ◌≤◌, if◌then◌else◌, flat_map, ℕ, List, [], ◌∷◌, ◌++◌, All, Contains, Option, Some, None, IfSome, option_map, map, length}
use Rattle.base_types.specs.Sets.{AllDiffer, SameElements}
use Rattle.term_store.specs.Store.{text_at, begins_blank}
use Rattle.term_store.specs.declared.store.TermId.{TermId}
use Rattle.term_store.specs.declared.statements.Quad.{Quad}
use Rattle.nquads.specs.Terms.{Statement}
use Rattle.nquads.specs.Spelling.{text_quad}
use Rattle.nquads.specs.Stored.{quad_texts, IsKnown}
use Rattle.nquads.specs.Reading.{Says, SaysDataset, IsFirstBadLine, HasMoreStatements, HasMoreBlanks}
use Rattle.nquads.specs.declared.fault.NqFault.{NqFault}
use Rattle.nquads.specs.declared.fault.NqFault.TheVariants.{At, TooManyStatements, TooManyBlanks, Memory}
use Rattle.nquads.specs.declared.quads.TextQuad.{TextQuad}

-- the number of a graph's text, where there is one
abbrev pub IsGraphAt : List (List ℕ) → Option (List ℕ) → Option TermId → Type 0
IsGraphAt texts graph kept =
    (option_map (text_at texts) kept ≡ graph) × IfSome kept (λ id. id.index < length texts)

-- the numbers of a statement's texts
abbrev pub IsQuadAt : List (List ℕ) → TextQuad → Quad → Type 0
IsQuadAt texts quad kept = IsKnown texts kept × (quad_texts texts kept ≡ quad)

-- more than so many different ones are among these
pub record HasMoreQuads (quads : List Quad) (most : ℕ) : Type 0 where
  pub some : List Quad
  pub differ : AllDiffer some
  pub more : most < length some
  pub among : All (Contains quads) some

-- why these are too many
abbrev pub AreTooMany : List Quad → NqFault → Type 0
AreTooMany quads (At n) = ⊥
AreTooMany quads (TooManyStatements n) = (n ≡ 20000) × HasMoreQuads quads 20000
AreTooMany quads (TooManyBlanks n) = ⊥
AreTooMany quads Memory = Unit {0}

-- the texts of what a line says
abbrev pub said_texts : Option Statement → List TextQuad
said_texts None = []
said_texts (Some s) = text_quad s ∷ []

-- what a line says was kept
pub record KeepsLine (line : List ℕ) (texts : List (List ℕ)) (old new : List Quad) : Type 0 where
  pub said : Option Statement
  pub says : Says line said
  pub known : All (IsKnown texts) new
  pub same : SameElements (map (quad_texts texts) new)
      (map (quad_texts texts) old ++ said_texts said)

-- the line says one statement too many
pub record SaysTooMuch (line : List ℕ) (texts : List (List ℕ)) (old : List Quad) : Type 0 where
  pub statement : Statement
  pub says : Says line (Some statement)
  pub quad : Quad
  pub differ : AllDiffer texts
  pub known : All (IsKnown texts) (old ++ quad ∷ [])
  pub is : quad_texts texts quad ≡ text_quad statement
  pub more : HasMoreQuads (old ++ quad ∷ []) 20000

-- why a line is not kept that begins at this byte
abbrev pub IsLineFault : List ℕ → ℕ → List (List ℕ) → List Quad → NqFault → Type 0
IsLineFault line at texts old (At n) = (n ≡ at) × ((x : Option Statement) → Says line x → ⊥)
IsLineFault line at texts old (TooManyStatements n) = (n ≡ 20000) × SaysTooMuch line texts old
IsLineFault line at texts old (TooManyBlanks n) = ⊥
IsLineFault line at texts old Memory = Unit {0}

-- the statements of a text are kept
pub record KeepsText (bytes : List ℕ) (texts : List (List ℕ)) (quads : List Quad) : Type 0 where
  pub dataset : List Statement
  pub says : SaysDataset bytes dataset
  pub known : All (IsKnown texts) quads
  pub same : SameElements (map (quad_texts texts) quads) (map text_quad dataset)

-- why the statements of a text are not kept
abbrev pub IsTextFault : List ℕ → NqFault → Type 0
IsTextFault bytes (At n) = IsFirstBadLine bytes n
IsTextFault bytes (TooManyStatements n) = (n ≡ 20000) × HasMoreStatements bytes 20000
IsTextFault bytes (TooManyBlanks n) = ⊥
IsTextFault bytes Memory = Unit {0}

-- ---- blank nodes

-- the number, where it stands for a blank node
abbrev pub blank_id : List (List ℕ) → TermId → List ℕ
blank_id texts id = if begins_blank (text_at texts id) then id.index ∷ [] else []

abbrev pub graph_blank_id : List (List ℕ) → Option TermId → List ℕ
graph_blank_id texts None = []
graph_blank_id texts (Some id) = blank_id texts id

-- the numbers of a statement's blank nodes
abbrev pub quad_blank_ids : List (List ℕ) → Quad → List ℕ
quad_blank_ids texts quad =
    blank_id texts quad.subject
    ++ (blank_id texts quad.object ++ graph_blank_id texts quad.graph)

-- those of statements
abbrev pub blank_ids : List (List ℕ) → List Quad → List ℕ
blank_ids texts quads = flat_map (quad_blank_ids texts) quads

-- ---- the whole

-- more than so many different blank nodes are mentioned
pub record HasMoreIds (texts : List (List ℕ)) (quads : List Quad) (most : ℕ) : Type 0 where
  pub some : List ℕ
  pub differ : AllDiffer some
  pub more : most < length some
  pub among : All (Contains (blank_ids texts quads)) some

-- what is left of statements with repeats: each once, not too many, and not too many blank nodes
pub record IsSet (texts : List (List ℕ)) (all quads : List Quad) : Type 0 where
  pub same : SameElements quads all
  pub few : length quads ≤ 20000
  pub ids : List ℕ
  pub ids_same : SameElements ids (blank_ids texts quads)
  pub few_ids : length ids ≤ 4096

-- why they are no such set
abbrev pub IsSetFault : List (List ℕ) → List Quad → NqFault → Type 0
IsSetFault texts all (At n) = ⊥
IsSetFault texts all (TooManyStatements n) = (n ≡ 20000) × HasMoreQuads all 20000
IsSetFault texts all (TooManyBlanks n) = (n ≡ 4096) × HasMoreIds texts all 4096
IsSetFault texts all Memory = Unit {0}

-- what is read of a text
pub record IsReadOf (bytes : List ℕ) (texts : List (List ℕ)) (quads : List Quad) : Type 0 where
  pub known : All (IsKnown texts) quads
  pub dataset : List Statement
  pub says : SaysDataset bytes dataset
  pub same : SameElements (map (quad_texts texts) quads) (map text_quad dataset)
  pub few : length quads ≤ 20000
  pub few_blanks : HasMoreBlanks bytes 4096 → ⊥

-- why it is not read
abbrev pub IsReadFault : List ℕ → NqFault → Type 0
IsReadFault bytes (At n) = IsFirstBadLine bytes n
IsReadFault bytes (TooManyStatements n) = (n ≡ 20000) × HasMoreStatements bytes 20000
IsReadFault bytes (TooManyBlanks n) = (n ≡ 4096) × HasMoreBlanks bytes 4096
IsReadFault bytes Memory = Unit {0}
