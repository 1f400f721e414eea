use Rattle.std.proofs.Common.{◌≡◌, ◌∙◌}
use Rattle.json_tree.specs.Trees.{holds_version}
use Rattle.jcs_text.specs.declared.fault.JcsFault.TheVariants.{Version}
use Rattle.jcs_text.specs.Internal.Writing.{tokens_of}
use Rattle.jcs_text.proofs.ReadBack.{read_back}
use Rattle.jcs_text.proofs.Turns.{all_tokens, all_text, version_told}
use Rattle.jcs_text.proofs.writing.jcs.Goals as goal

pub text_in-requires : goal.text_in-requires
text_in-requires c = c.in-Ok.ensures.1.before ∙ c.new-out.ensures.before ∙ c.new.ensures.items

pub returns-in-Ok-clause-text : goal.returns-in-Ok-clause-text
returns-in-Ok-clause-text c = all_text c.args.tree.now c.new-out.result c.write_tree.new.out _ c.new-out.ensures.tokens c.in-Ok.ensures.1 c.text_in.ensures.text

pub returns-in-Ok-clause-whole : goal.returns-in-Ok-clause-whole
returns-in-Ok-clause-whole c = c.in-Ok.ensures.0

pub returns-in-Ok-clause-reads_back : goal.returns-in-Ok-clause-reads_back
returns-in-Ok-clause-reads_back c well shallow =
    read_back c.args.tree.now _ c.write_tree.new.out.tokens c.in-Ok.ensures.0 c.text_in.ensures.text c.text_in.ensures.reads_back c.text_in.ensures.utf8
    (all_tokens c.args.tree.now c.new-out.result c.write_tree.new.out c.new-out.ensures.tokens c.in-Ok.ensures.1) well shallow

pub returns-in-Err-clause-version : goal.returns-in-Err-clause-version
returns-in-Err-clause-version c is =
    let refused : c.in-Err.fault ≡ Version = cc in
    version_told c.new-out.result c.write_tree.new.out (tokens_of c.args.tree.now) (holds_version c.args.tree.now) c.in-Err.fault c.in-Err.ensures refused
