use Rattle.std.proofs.Common.{◌∙◌, length}
use Rattle.hmac_labels.proofs.Answering.{made, refused, texts-long, answered}
use Rattle.hmac_labels.proofs.labelling.labels_of.Goals as goal

pub returns-in-Some : goal.returns-in-Some
returns-in-Some c =
    let is = made c.args.hash c.args.key.now _ (length c.args.canonical.now) _ c.in_ok-digests.digests _ c.in_ok-texts.texts.items
    c.as_slice.ensures c.len.ensures.count c.in_ok-digests.ensures c.as_slice-2.ensures c.in_ok-texts.ensures in
    refused c.args.hash c.args.key.now (length c.args.canonical.now) c.in_ok-digests.digests c.in_ok-texts.texts.items
    c.deref.result.now c.in_ok-first.field-0 is c.deref.ensures.value c.in_ok-first.ensures c.in-Some.first c.in-Some.second
    c.in-Some.is

pub with_texts-requires : goal.with_texts-requires
with_texts-requires c =
    let is = made c.args.hash c.args.key.now _ (length c.args.canonical.now) _ c.in_ok-digests.digests _ c.in_ok-texts.texts.items
    c.as_slice.ensures c.len.ensures.count c.in_ok-digests.ensures c.as_slice-2.ensures c.in_ok-texts.ensures in
    texts-long c.args.hash c.args.key.now (length c.args.canonical.now) c.in_ok-digests.digests c.in_ok-texts.texts.items
    c.deref-2.result.now is c.deref-2.ensures.value

pub returns : goal.returns
returns c =
    let is = made c.args.hash c.args.key.now _ (length c.args.canonical.now) _ c.in_ok-digests.digests _ c.in_ok-texts.texts.items
    c.as_slice.ensures c.len.ensures.count c.in_ok-digests.ensures c.as_slice-2.ensures c.in_ok-texts.ensures in
    answered c.args.hash c.args.key.now c.args.canonical.now c.in_ok-labels.labels c.in_ok-digests.digests
    c.in_ok-texts.texts.items c.deref.result.now c.deref-2.result.now c.in_ok-first.field-0 is c.deref.ensures.value
    c.deref-2.ensures.value c.in_ok-first.ensures c.in_default.is c.in_ok-labels.ensures
