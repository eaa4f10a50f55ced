mod ToldLaws
mod TableLaws
mod KeyLaws
