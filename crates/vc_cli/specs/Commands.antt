-- The words of the commands, and which reply answers them.
use Rattle.std.specs.Prelude.{◌≡◌, ◌⊎◌, ℕ, List, [], ◌∷◌, codes}
use Rattle.vc_io.specs.Bytes.{SourceMeaning}
use Rattle.key_device.specs.Devices.{DeviceMeaning}
use Rattle.vc_session.specs.declared.reply.Reply.{Reply}
use Rattle.vc_session.specs.declared.reply.Reply.TheVariants as reply
use Rattle.vc_session.specs.Answers.{AnswersRequest, IssueAnswers, StatementsAnswers, VerifyAnswers}

-- the words are the one word `statements`, `issue` or `verify`
abbrev pub IsStatements : List (List ℕ) → Type 0
IsStatements words = words ≡ codes "statements" ∷ []

abbrev pub IsIssueCommand : List (List ℕ) → Type 0
IsIssueCommand words = words ≡ codes "issue" ∷ []

abbrev pub IsVerifyCommand : List (List ℕ) → Type 0
IsVerifyCommand words = words ≡ codes "verify" ∷ []

-- one of these
abbrev pub IsCommand : List (List ℕ) → Type 0
IsCommand words = IsStatements words ⊎ IsIssueCommand words ⊎ IsVerifyCommand words

-- The reply is the answer to these words, for a source and a device that meant this before and
-- after: the usage line exactly where the words are no command.
abbrev pub Answers : List (List ℕ) → SourceMeaning → SourceMeaning
    → DeviceMeaning → DeviceMeaning → Reply → Type 0
Answers words source source_after device device_after r =
    (IsStatements words × AnswersRequest StatementsAnswers source source_after r)
    ⊎ (IsIssueCommand words
    × AnswersRequest (IssueAnswers device device_after) source source_after r)
    ⊎ (IsVerifyCommand words
    × AnswersRequest (VerifyAnswers device device_after) source source_after r)
    ⊎ ((IsCommand words → ⊥) × (r ≡ reply.Usage))
