-- The texts over the name of a schema, of a table of migrations, or of a database.
use Rattle.std.specs.Prelude.{ℕ, List}
use Rattle.pg_migrate.specs.Texts.{create_database_text, create_schema_text, create_table_text, delete_row_text, dirty_version_text, drop_database_text, insert_row_text, list_text, update_time_text}
use Rattle.pg_migrating.specs.declared.texts.Wording.{Wording}
use Rattle.pg_migrating.specs.declared.texts.Wording.TheVariants as wordings

abbrev pub text_of : Wording → List ℕ → List ℕ
text_of wordings.CreateSchema schema = create_schema_text schema
text_of wordings.CreateTable table = create_table_text table
text_of wordings.DirtyVersion table = dirty_version_text table
text_of wordings.List table = list_text table
text_of wordings.InsertRow table = insert_row_text table
text_of wordings.UpdateTime table = update_time_text table
text_of wordings.DeleteRow table = delete_row_text table
text_of wordings.CreateDatabase database = create_database_text database
text_of wordings.DropDatabase database = drop_database_text database
